use Rattle.std.proofs.Common.{◌≡◌, length}
use Rattle.ir_lex.specs.Quotes.{has_zero, unescaped}
use Rattle.ir_lex.proofs.quotes.hides_zero.Given as goal

abbrev pub invariant-each : goal.invariant-each
invariant-each l = has_zero (unescaped l.bytes) ≡ has_zero (unescaped l.rest)

abbrev pub decreases-each : goal.decreases-each
decreases-each l = length l.rest
