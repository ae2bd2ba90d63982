use Rattle.ir_facts.proofs.AnySolution.{steps_better}
use Rattle.ir_facts.proofs.laws.steps_are_better.Goals as goal

pub returns : goal.returns
returns c = steps_better
