use Rattle.ir_print.proofs.Written.{finish}
use Rattle.ir_print.proofs.variable.put_variable.Goals as goal

pub returns : goal.returns
returns c =
    finish _ _ _ _ _ _ (rw c.as_slice.ensures at c.in_ok-global.ensures) (finish _ _ _ _ _ _ c.in_ok-mark.ensures (finish _ _ _ _ _ _ c.in_ok-linked.ensures (finish _ _ _ _ _ _ c.in_ok-kind.ensures
    (finish _ _ _ _ _ _ c.in_ok-shape.ensures (finish _ _ _ _ _ _ c.in_ok-given.ensures c.aligned.ensures)))))
