use Rattle.ir_parse.proofs.Readings.{decided}
use Rattle.ir_parse.proofs.laws.decided.Goals as goal

pub returns : goal.returns
returns c = decided
