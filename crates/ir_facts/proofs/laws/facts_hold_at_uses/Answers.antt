use Rattle.ir_facts.proofs.InRounds.{are_all}
use Rattle.ir_facts.proofs.laws.facts_hold_at_uses.Goals as goal

pub returns : goal.returns
returns c = are_all
