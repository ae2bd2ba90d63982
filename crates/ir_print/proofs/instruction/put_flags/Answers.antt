use Rattle.ir_print.proofs.Written.{finish}
use Rattle.ir_print.proofs.instruction.put_flags.Goals as goal

pub returns : goal.returns
returns c = finish _ _ _ _ _ _ c.in_ok-optional.ensures (finish _ _ _ _ _ _ c.in_ok-optional-2.ensures c.optional-3.ensures)
