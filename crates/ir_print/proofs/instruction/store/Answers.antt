use Rattle.ir_print.proofs.Written.{finish}
use Rattle.ir_print.proofs.instruction.store.Goals as goal

pub returns : goal.returns
returns c = finish _ _ _ _ _ _ c.in_ok-word.ensures (finish _ _ _ _ _ _ c.in_ok-typed.ensures (finish _ _ _ _ _ _ c.in_ok-pointer_to.ensures c.aligned.ensures))
