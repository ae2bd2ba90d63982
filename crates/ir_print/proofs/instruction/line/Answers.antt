use Rattle.ir_print.proofs.Written.{finish}
use Rattle.ir_print.proofs.instruction.line.Goals as goal

pub returns-in_ok-mark-in-Some : goal.returns-in_ok-mark-in-Some
returns-in_ok-mark-in-Some c = rw c.in-Some.is (finish _ _ _ _ _ _ c.in_ok-local-in-Some.ensures (finish _ _ _ _ _ _ c.in_ok-mark-in-Some.ensures c.put_instruction-in-Some.ensures))
