use Rattle.ir_print.proofs.Written.{finish}
use Rattle.ir_print.proofs.instruction.icmp.Goals as goal

pub returns : goal.returns
returns c = finish _ _ _ _ _ _ c.in_ok-word.ensures (finish _ _ _ _ _ _ (rw c.condition.ensures.is at c.in_ok-word-2.ensures) (finish _ _ _ _ _ _ c.in_ok-register.ensures c.both.ensures))
