use Rattle.ir_meaning.proofs.Rules.Rows.{rows}
use Rattle.ir_meaning.proofs.passes.rules_right.Goals as goal

pub returns : goal.returns
returns c = rows
