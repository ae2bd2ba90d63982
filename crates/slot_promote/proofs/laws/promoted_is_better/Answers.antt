use Rattle.slot_promote.proofs.Planned.{is_better}
use Rattle.slot_promote.proofs.laws.promoted_is_better.Goals as goal

pub returns : goal.returns
returns c = is_better
