use Rattle.back_end.proofs.Walks.{walk_once}
use Rattle.back_end.proofs.laws.walk_is_one.Goals as goal

pub returns : goal.returns
returns c = walk_once c.inlined_is_one.ensures
