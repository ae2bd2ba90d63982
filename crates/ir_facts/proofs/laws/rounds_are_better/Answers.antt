use Rattle.ir_facts.proofs.InRounds.{are_better}
use Rattle.ir_facts.proofs.laws.rounds_are_better.Goals as goal

pub returns : goal.returns
returns c = are_better
