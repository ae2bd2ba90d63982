use Rattle.std.proofs.Common.{refl}
use Rattle.ir_parse_names.specs.Marks.{all, instr_marks}
use Rattle.ir_parse_stages.proofs.Gathering.{goes_on}
use Rattle.ir_parse_stages.proofs.instructions.lines.Goals as goal

pub each-preserved : goal.each-preserved
each-preserved c = goes_on (λ l. instr_marks l.instr) (all (λ l. instr_marks l.instr)) (λ y ys. refl) c.args.rows.now c.each.line-index c.line-item.result _ _ _ c.each-test.true c.line-item.is c.each.invariant c.in_ok-instr_marks.ensures
