use Rattle.std.proofs.Common.{◌≡◌, length}
use Rattle.ir_lex.specs.TokenKinds.{begins_with}
use Rattle.ir_lex.specs.Quotes.{unescaped}
use Rattle.ir_lex.proofs.names.begins_spelled.Given as goal

abbrev pub invariant-each : goal.invariant-each
invariant-each l = begins_with l.start (unescaped l.quoted) ≡ begins_with l.left (unescaped l.rest)

abbrev pub decreases-each : goal.decreases-each
decreases-each l = length l.left
