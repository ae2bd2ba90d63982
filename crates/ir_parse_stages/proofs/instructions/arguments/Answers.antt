use Rattle.std.proofs.Common.{refl}
use Rattle.ir_parse_names.specs.Marks.{all, operand_marks}
use Rattle.ir_parse_stages.proofs.Gathering.{goes_on}
use Rattle.ir_parse_stages.proofs.instructions.arguments.Goals as goal

pub each-preserved : goal.each-preserved
each-preserved c = goes_on (λ a. operand_marks a.operand) (all (λ a. operand_marks a.operand)) (λ y ys. refl) c.args.given.now c.each.argument-index c.argument-item.result _ _ _ c.each-test.true c.argument-item.is c.each.invariant c.in_ok-operand_marks.ensures
