use Rattle.ir_meaning.proofs.Runs.Transitive.{refines_trans}
use Rattle.ir_meaning.proofs.programs.transitivity.Goals as goal

pub returns : goal.returns
returns c = refines_trans
