use Rattle.ir_print.proofs.Written.{finish}
use Rattle.ir_print.proofs.operand.typed.Goals as goal

pub returns : goal.returns
returns c = finish _ _ _ _ _ _ c.in_ok-register.ensures c.operand.ensures
