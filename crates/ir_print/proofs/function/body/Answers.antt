use Rattle.ir_print.proofs.Written.{finish}
use Rattle.ir_print.proofs.function.body.Goals as goal

pub returns : goal.returns
returns c = finish _ _ _ _ _ _ c.in_ok-mark.ensures (finish _ _ _ _ _ _ c.in_ok-put_blocks.ensures c.mark-2.ensures)
