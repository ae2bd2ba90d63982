use Rattle.ir_facts.proofs.SoleOperands.{are_sole}
use Rattle.ir_facts.proofs.laws.phi_sources_are_sole.Goals as goal

pub returns : goal.returns
returns c = are_sole
