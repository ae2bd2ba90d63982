use Rattle.ir_meaning.proofs.Rules.Tabled as table
use Rattle.ir_meaning.proofs.passes.table_right.Goals as goal

pub returns : goal.returns
returns c = table.table_right
