use Rattle.lto_sets.proofs.SetLaws.{contains-meet}
use Rattle.lto_sets.proofs.laws.meet_is_intersection.Goals as goal

pub returns : goal.returns
returns c = contains-meet
