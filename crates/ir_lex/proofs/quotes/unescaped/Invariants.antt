use Rattle.std.proofs.Common.{◌≡◌, ◌++◌, length}
use Rattle.ir_lex.specs.Quotes.{unescaped}
use Rattle.ir_lex.proofs.quotes.unescaped.Given as goal

abbrev pub invariant-each : goal.invariant-each
invariant-each l = unescaped l.bytes ≡ l.out.items ++ unescaped l.rest

abbrev pub decreases-each : goal.decreases-each
decreases-each l = length l.rest
