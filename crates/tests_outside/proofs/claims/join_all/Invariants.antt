use Rattle.std.proofs.Common.{All, vec_len}
use Rattle.claim_word.specs.Passes.{IsPassOf}
use Rattle.tests_outside.proofs.claims.join_all.Given as goal

abbrev pub invariant-loop-other : goal.invariant-loop-other
invariant-loop-other l = record {
  pass : IsPassOf l.claims l.pass;
  drawers : All (λ d. IsPassOf l.claims d.pass) l.drawers.items;
}

abbrev pub decreases-loop-other : goal.decreases-loop-other
decreases-loop-other l = vec_len l.drawers
