use Rattle.ir_print.proofs.Written.{finish}
use Rattle.ir_print.proofs.instruction.both.Goals as goal

pub returns : goal.returns
returns c = finish _ _ _ _ _ _ c.in_ok-operand.ensures (finish _ _ _ _ _ _ c.in_ok-mark.ensures c.operand-2.ensures)
