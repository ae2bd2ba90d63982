use Rattle.block_trim.proofs.One.{is_one}
use Rattle.block_trim.proofs.merge_laws.merge_is_one.Goals as goal

pub returns : goal.returns
returns c = is_one
