use Rattle.ir_print.proofs.Written.{finish}
use Rattle.ir_print.proofs.instruction.phi.Goals as goal

pub returns : goal.returns
returns c = finish _ _ _ _ _ _ c.in_ok-word.ensures (finish _ _ _ _ _ _ c.in_ok-register.ensures c.all_incoming.ensures)
