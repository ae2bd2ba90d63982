use Rattle.ir_facts.proofs.Standing as sources
use Rattle.ir_facts.proofs.laws.line_sources_right.Goals as goal

pub returns : goal.returns
returns c = sources.line_sources_right
