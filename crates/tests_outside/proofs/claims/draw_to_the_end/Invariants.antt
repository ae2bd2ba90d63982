use Rattle.claim_word.specs.Passes.{IsPassOf}
use Rattle.tests_outside.proofs.claims.draw_to_the_end.Given as goal

abbrev pub invariant-loop : goal.invariant-loop
invariant-loop l = IsPassOf l.claims l.drawer.pass
