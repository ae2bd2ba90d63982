use Rattle.dead_code.proofs.Numbers.{shifted_better}
use Rattle.dead_code.proofs.laws.shifted_is_better.Goals as goal

pub returns : goal.returns
returns c = shifted_better
