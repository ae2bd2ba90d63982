use Rattle.dead_code.proofs.Better.{is_one}
use Rattle.dead_code.proofs.laws.needed_is_one.Goals as goal

pub returns : goal.returns
returns c = is_one
