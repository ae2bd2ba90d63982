use Rattle.ir_print.proofs.Written.{finish}
use Rattle.ir_print.proofs.function.param.Goals as goal

pub returns : goal.returns
returns c = finish _ _ _ _ _ _ c.in_ok-register.ensures c.local.ensures
