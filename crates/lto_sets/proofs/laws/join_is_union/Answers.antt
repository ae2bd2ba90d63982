use Rattle.lto_sets.proofs.SetLaws.{contains-join}
use Rattle.lto_sets.proofs.laws.join_is_union.Goals as goal

pub returns : goal.returns
returns c = contains-join
