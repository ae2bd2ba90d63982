use Rattle.ir_facts.proofs.Pointwise.{facts_make}
use Rattle.ir_facts.proofs.laws.facts_make_steps.Goals as goal

pub returns : goal.returns
returns c = facts_make
