use Rattle.ir_meaning.proofs.Unneeded.Dropped.{needed_is_better}
use Rattle.ir_meaning.proofs.passes.needed_better.Goals as goal

pub returns : goal.returns
returns c = needed_is_better
