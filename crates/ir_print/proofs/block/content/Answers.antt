use Rattle.ir_print.proofs.Written.{finish}
use Rattle.ir_print.proofs.block.content.Goals as goal

pub returns : goal.returns
returns c = finish _ _ _ _ _ _ (rw c.as_slice.ensures at c.in_ok-put_phis.ensures) (finish _ _ _ _ _ _ (rw c.as_slice-2.ensures at c.in_ok-put_lines.ensures) c.put_terminator.ensures)
