use Rattle.std.proofs.Common.{◌≡◌, length, None}
use Rattle.ir_parse_parts.specs.Alphabet.{among}
use Rattle.ir_parse_parts.specs.Readers.{star_at, folded}
use Rattle.ir_parse_parts.specs.Classes.{tokens}
use Rattle.ir_parse_parts.specs.MetadataAt.{COMMA}
use Rattle.ir_parse_globals.specs.Variables.{with_align}
use Rattle.ir_parse_globals.specs.VariablesAt.{further_at}
use Rattle.ir_parse_globals.proofs.variables.tail_at.Given as goal

abbrev pub invariant-each : goal.invariant-each
invariant-each l = folded with_align l.align (star_at (among tokens COMMA) further_at l.tokens) ≡ folded with_align None (star_at (among tokens COMMA) further_at l.fn.tokens)

abbrev pub decreases-each : goal.decreases-each
decreases-each l = length l.tokens
