use Rattle.ir_meaning.proofs.Runs.WholeRuns.{congruent}
use Rattle.ir_meaning.proofs.programs.congruence.Goals as goal

pub returns : goal.returns
returns c = congruent
