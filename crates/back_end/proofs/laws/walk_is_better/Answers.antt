use Rattle.back_end.proofs.Walks.{walk_keeps}
use Rattle.back_end.proofs.laws.walk_is_better.Goals as goal

pub returns : goal.returns
returns c = walk_keeps (record { better = c.inlined_is_better.ensures; sound = c.inlined_is_sound.ensures })
