use Rattle.ir_meaning.proofs.Facts.Known.{known_better}
use Rattle.ir_meaning.proofs.passes.replaced_better.Goals as goal

pub returns : goal.returns
returns c = known_better
