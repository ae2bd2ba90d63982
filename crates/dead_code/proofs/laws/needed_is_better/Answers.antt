use Rattle.dead_code.proofs.Better.{is_better}
use Rattle.dead_code.proofs.laws.needed_is_better.Goals as goal

pub returns : goal.returns
returns c = is_better
