use Rattle.ir_facts.proofs.InRounds.{settled_is_better}
use Rattle.ir_facts.proofs.laws.settled_is_better.Goals as goal

pub returns : goal.returns
returns c = settled_is_better
