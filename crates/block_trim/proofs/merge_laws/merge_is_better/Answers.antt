use Rattle.block_trim.proofs.Better.{is_better}
use Rattle.block_trim.proofs.merge_laws.merge_is_better.Goals as goal

pub returns : goal.returns
returns c = is_better
