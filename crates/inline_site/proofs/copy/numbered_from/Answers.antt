use Rattle.std.proofs.Common.{◌∙◌, ap}
use Rattle.std.proofs.lemmas.Result.{IfOk-weaker}
use Rattle.ir_tree.specs.Edited.{shifted}
use Rattle.inline_site.proofs.copy.numbered_from.Goals as goal

pub returns : goal.returns
returns c = IfOk-weaker c.shift_numbers.result _ _ (λ g is. is ∙ ap (shifted c.args.free) c.in_ok-numbered.ensures) c.shift_numbers.ensures
