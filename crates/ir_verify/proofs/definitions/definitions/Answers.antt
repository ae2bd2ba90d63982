use Rattle.std.proofs.Common.{[]}
use Rattle.ir_verify.specs.Definitions.{definitions}
use Rattle.ir_verify.proofs.Extending.{and_more}
use Rattle.ir_verify.proofs.definitions.definitions.Goals as goal

pub returns : goal.returns
unfolding definitions
returns c = rw (c.as_slice.ensures, c.as_slice-2.ensures) at (and_more _ _ _ _ _ c.in_ok-put_params.ensures c.in_ok-put_blocks.ensures [] c.new-table.ensures)
