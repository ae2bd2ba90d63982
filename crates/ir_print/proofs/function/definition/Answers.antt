use Rattle.ir_print.proofs.Written.{finish}
use Rattle.ir_print.proofs.function.definition.Goals as goal

pub returns : goal.returns
returns c =
    finish _ _ _ _ _ _ c.in_ok-word.ensures (finish _ _ _ _ _ _ c.in_ok-put_linkage.ensures (finish _ _ _ _ _ _ c.in_ok-signature.ensures (finish _ _ _ _ _ _ (rw c.as_slice.ensures at c.in_ok-put_params.ensures)
    (finish _ _ _ _ _ _ c.in_ok-mark.ensures (finish _ _ _ _ _ _ c.in_ok-attributes.ensures (rw c.as_slice-2.ensures at c.body.ensures))))))
