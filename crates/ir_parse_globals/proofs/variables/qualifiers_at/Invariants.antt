use Rattle.std.proofs.Common.{◌≡◌, length}
use Rattle.ir_parse_parts.specs.Alphabet.{among}
use Rattle.ir_parse_parts.specs.Readers.{star_at, folded, dropped}
use Rattle.ir_parse_parts.specs.Classes.{tokens, one_of_at}
use Rattle.ir_parse_heads.specs.FunctionHeads.{QUALIFIERS, nothing_of}
use Rattle.ir_parse_globals.proofs.variables.qualifiers_at.Given as goal

abbrev pub invariant-each : goal.invariant-each
invariant-each l = folded dropped tt (star_at (among tokens QUALIFIERS) (one_of_at QUALIFIERS nothing_of) l.tokens) ≡ folded dropped tt (star_at (among tokens QUALIFIERS) (one_of_at QUALIFIERS nothing_of) l.fn.tokens)

abbrev pub decreases-each : goal.decreases-each
decreases-each l = length l.tokens
