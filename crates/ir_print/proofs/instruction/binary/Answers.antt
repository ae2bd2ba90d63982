use Rattle.ir_print.proofs.Written.{finish}
use Rattle.ir_print.proofs.instruction.binary.Goals as goal

pub returns : goal.returns
returns c = finish _ _ _ _ _ _ (rw c.opcode.ensures.is at c.in_ok-word.ensures) (finish _ _ _ _ _ _ c.in_ok-put_flags.ensures (finish _ _ _ _ _ _ c.in_ok-width.ensures c.both.ensures))
