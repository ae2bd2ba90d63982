use Rattle.std.proofs.Common.{◌≡◌, length}
use Rattle.ir_lex.specs.TokenKinds.{begins_with}
use Rattle.ir_lex.proofs.names.begins_with.Given as goal

abbrev pub invariant-each : goal.invariant-each
invariant-each l = begins_with l.start l.bytes ≡ begins_with l.left l.rest

abbrev pub decreases-each : goal.decreases-each
decreases-each l = length l.left
