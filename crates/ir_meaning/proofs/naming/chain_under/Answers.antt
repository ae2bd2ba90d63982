use Rattle.ir_meaning.proofs.Runs.Transitive.{chained_under}
use Rattle.ir_meaning.proofs.naming.chain_under.Goals as goal

pub returns : goal.returns
returns c = chained_under
