use Rattle.ir_flow.proofs.Along.{greatest-marked}
use Rattle.ir_flow.proofs.laws.greatest_is_marked.Goals as goal

pub returns : goal.returns
returns c = greatest-marked
