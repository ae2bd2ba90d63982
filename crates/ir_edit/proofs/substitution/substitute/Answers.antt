use Rattle.std.proofs.Common.{◌∙◌}
use Rattle.ir_tree.specs.Edited.{edited}
use Rattle.ir_edit.specs.Substituted.{operand_replaced}
use Rattle.ir_edit.proofs.substitution.substitute.Goals as goal

pub returns : goal.returns
returns c = c.in_ok-g.ensures ∙ (λ i. edited (λ x. x) (operand_replaced (λ x. c.in_ok-replacements.ensures x i)) c.args.f.now)
