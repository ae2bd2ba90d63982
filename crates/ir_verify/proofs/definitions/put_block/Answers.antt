use Rattle.ir_verify.proofs.Extending.{and_more}
use Rattle.ir_verify.proofs.definitions.put_block.Goals as goal

pub returns : goal.returns
returns c = rw (c.as_slice.ensures, c.as_slice-2.ensures) at (and_more _ _ _ _ _ c.in_ok-put_phis.ensures c.in_ok-put_lines.ensures)
