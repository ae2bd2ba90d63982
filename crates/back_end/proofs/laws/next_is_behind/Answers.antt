use Rattle.back_end.proofs.GoingOn.{next_behind}
use Rattle.back_end.proofs.laws.next_is_behind.Goals as goal

pub returns : goal.returns
returns c = next_behind
