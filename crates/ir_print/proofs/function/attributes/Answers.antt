use Rattle.ir_print.proofs.Written.{finish}
use Rattle.ir_print.proofs.function.attributes.Goals as goal

pub returns : goal.returns
returns c = finish _ _ _ _ _ _ c.in_ok-optional.ensures c.optional-2.ensures
