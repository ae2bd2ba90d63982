use Rattle.ir_print.proofs.Written.{finish}
use Rattle.ir_print.proofs.function.signature.Goals as goal

pub returns : goal.returns
returns c = finish _ _ _ _ _ _ c.in_ok-result_type.ensures (finish _ _ _ _ _ _ (rw c.as_slice.ensures at c.in_ok-global.ensures) c.mark.ensures)
