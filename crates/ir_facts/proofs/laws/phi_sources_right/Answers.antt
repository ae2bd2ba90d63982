use Rattle.ir_facts.proofs.Standing as sources
use Rattle.ir_facts.proofs.laws.phi_sources_right.Goals as goal

pub returns : goal.returns
returns c = sources.phi_sources_right
