use Rattle.std.proofs.Common.{◌∙◌}
use Rattle.ir_tree.specs.Edited.{renamed}
use Rattle.ir_edit.proofs.text_order.renumber.Goals as goal

pub returns : goal.returns
returns c = c.in_ok-g.ensures ∙ (λ i. renamed (λ x. c.in_ok-new.ensures x i) c.args.f.now)
