use Rattle.std.proofs.Common.{refl}
use Rattle.ir_parse_names.specs.Marks.{all, operand_marks}
use Rattle.ir_parse_stages.proofs.Gathering.{goes_on}
use Rattle.ir_parse_stages.proofs.instructions.entries.Goals as goal

pub each-preserved : goal.each-preserved
each-preserved c = goes_on (λ i. operand_marks i.value) (all (λ i. operand_marks i.value)) (λ y ys. refl) c.args.incoming.now c.each.entry-index c.entry-item.result _ _ _ c.each-test.true c.entry-item.is c.each.invariant c.in_ok-operand_marks.ensures
