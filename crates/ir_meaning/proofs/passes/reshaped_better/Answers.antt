use Rattle.ir_meaning.proofs.Blocks.Reshaped.{reshaped_is_better}
use Rattle.ir_meaning.proofs.passes.reshaped_better.Goals as goal

pub returns : goal.returns
returns c = reshaped_is_better
