use Rattle.std.specs.Prelude.{bit_or}
use Rattle.lto_sets.proofs.Turns.{IsDone}
use Rattle.lto_sets.proofs.word.join_words.Given as goal

abbrev pub invariant-loop-i : goal.invariant-loop-i
invariant-loop-i l = IsDone (λ x y. bit_or x y) l.fn.words l.others l.words l.i
