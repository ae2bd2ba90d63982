use Rattle.std.proofs.Common.{◌∷◌, sym, ap, ◌∙◌}
use Rattle.ir_parse_names.specs.Marks.{all, block_marks, global, item_marks}
use Rattle.ir_parse_stages.proofs.Gathering.{joined_if}
use Rattle.ir_parse_stages.proofs.items.item_marks.Goals as goal

pub returns-in_ok-push-in-Type : goal.returns-in_ok-push-in-Type
returns-in_ok-push-in-Type c = joined_if _ _ _ _ _ _ _ (ap item_marks c.in-Type.is) c.in_ok-push-in-Type.ensures c.uses_if.ensures

pub returns-in_ok-push-in-Definition : goal.returns-in_ok-push-in-Definition
returns-in_ok-push-in-Definition c = joined_if _ _ _ _ _ _ _ (ap item_marks c.in-Definition.is ∙ ap (λ bs. global c.in-Definition.head.name ∷ all block_marks bs) (sym c.as_slice.ensures)) c.in_ok-push-in-Definition.ensures c.blocks-in-Definition.ensures
