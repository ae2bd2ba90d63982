use Rattle.back_end.proofs.Bettering.{turn_keeps}
use Rattle.back_end.proofs.laws.turn_is_better.Goals as goal

pub returns : goal.returns
returns c = turn_keeps (record {
  rounds = c.rounds_are_better.ensures;
  branches = c.simplified_is_better.ensures;
  branches_sound = c.simplified_is_sound.ensures;
  trim = c.trim_is_better.ensures;
  trim_sound = c.trim_is_sound.ensures;
  merge = c.merge_is_better.ensures;
  merge_sound = c.merge_is_sound.ensures;
  needed = c.needed_is_better.ensures;
  needed_sound = c.needed_is_sound.ensures;
})
