use Rattle.ir_print.proofs.Written.{finish}
use Rattle.ir_print.proofs.function.declaration.Goals as goal

pub returns : goal.returns
returns c = finish _ _ _ _ _ _ c.in_ok-word.ensures (finish _ _ _ _ _ _ c.in_ok-signature.ensures (finish _ _ _ _ _ _ (rw c.as_slice.ensures at c.in_ok-put_types.ensures) c.mark.ensures))
