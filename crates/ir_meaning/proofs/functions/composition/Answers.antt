use Rattle.ir_meaning.proofs.Between.Composed.{composed}
use Rattle.ir_meaning.proofs.functions.composition.Goals as goal

pub returns : goal.returns
returns c = composed
