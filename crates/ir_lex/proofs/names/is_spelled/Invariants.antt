use Rattle.std.proofs.Common.{◌≡◌, length}
use Rattle.std.specs.Str.{bytes_eq}
use Rattle.ir_lex.specs.Quotes.{unescaped}
use Rattle.ir_lex.proofs.names.is_spelled.Given as goal

abbrev pub invariant-each : goal.invariant-each
invariant-each l = bytes_eq (unescaped l.quoted) l.name ≡ bytes_eq (unescaped l.rest) l.left

abbrev pub decreases-each : goal.decreases-each
decreases-each l = length l.left
