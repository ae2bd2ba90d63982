use Rattle.std.specs.Prelude.{bit_and}
use Rattle.lto_sets.proofs.Turns.{IsDone}
use Rattle.lto_sets.proofs.word.meet_words.Given as goal

abbrev pub invariant-loop-i : goal.invariant-loop-i
invariant-loop-i l = IsDone (λ x y. bit_and x y) l.fn.words l.others l.words l.i
