use Rattle.ir_facts.proofs.OneList.{are_one}
use Rattle.ir_facts.proofs.laws.facts_are_one.Goals as goal

pub returns : goal.returns
returns c = are_one
