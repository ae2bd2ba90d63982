use Rattle.block_trim.proofs.TrimBetter.{is_one}
use Rattle.block_trim.proofs.laws.trim_is_one.Goals as goal

pub returns : goal.returns
returns c = is_one
