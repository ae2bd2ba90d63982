use Rattle.block_trim.proofs.TrimBetter.{is_better}
use Rattle.block_trim.proofs.laws.trim_is_better.Goals as goal

pub returns : goal.returns
returns c = is_better
