use Rattle.ir_meaning.proofs.Between.LargerBounds.{wider}
use Rattle.ir_meaning.proofs.functions.larger_bounds.Goals as goal

pub returns : goal.returns
returns c = wider
