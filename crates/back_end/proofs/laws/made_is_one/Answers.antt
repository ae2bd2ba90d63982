use Rattle.back_end.proofs.Once.{made_once}
use Rattle.back_end.proofs.laws.made_is_one.Goals as goal

pub returns : goal.returns
returns c = made_once (record {
  walk = c.walk_is_better.ensures;
  walk_one = c.walk_is_one.ensures;
  promoted_sound = c.promoted_is_sound.ensures;
  turn = c.turn_is_better.ensures;
  rounds = c.rounds_are_better.ensures;
  branches_sound = c.simplified_is_sound.ensures;
  trim_sound = c.trim_is_sound.ensures;
  applied_one = c.applied_is_one.ensures;
  trim_one = c.trim_is_one.ensures;
  merge_one = c.merge_is_one.ensures;
  needed_one = c.needed_is_one.ensures;
})
