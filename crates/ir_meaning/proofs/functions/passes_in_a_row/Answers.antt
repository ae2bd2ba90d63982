use Rattle.ir_meaning.proofs.Between.InARow.{in_a_row}
use Rattle.ir_meaning.proofs.functions.passes_in_a_row.Goals as goal

pub returns : goal.returns
returns c = in_a_row
