use Rattle.std.proofs.Common.{All}
use Rattle.claim_word.specs.Passes.{IsPassOf}
use Rattle.tests_outside.proofs.claims.drawers_of.Given as goal

abbrev pub invariant-loop : goal.invariant-loop
invariant-loop l = record {
  first : IsPassOf l.claims l.first;
  drawers : All (λ d. IsPassOf l.claims d.pass) l.drawers.items;
}
