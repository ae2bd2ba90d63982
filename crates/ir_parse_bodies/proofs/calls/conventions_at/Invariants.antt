use Rattle.std.proofs.Common.{◌≡◌, length}
use Rattle.ir_parse_parts.specs.Alphabet.{among}
use Rattle.ir_parse_parts.specs.Readers.{star_at, folded, dropped}
use Rattle.ir_parse_parts.specs.Classes.{tokens}
use Rattle.ir_parse_bodies.specs.CallsAt.{CONVENTIONS, convention_at}
use Rattle.ir_parse_bodies.proofs.calls.conventions_at.Given as goal

abbrev pub invariant-each : goal.invariant-each
invariant-each l = folded dropped tt (star_at (among tokens CONVENTIONS) convention_at l.tokens) ≡ folded dropped tt (star_at (among tokens CONVENTIONS) convention_at l.fn.tokens)

abbrev pub decreases-each : goal.decreases-each
decreases-each l = length l.tokens
