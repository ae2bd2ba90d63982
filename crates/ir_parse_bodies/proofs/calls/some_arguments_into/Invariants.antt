use Rattle.std.proofs.Common.{◌≡◌, length}
use Rattle.ir_parse_parts.specs.Alphabet.{among}
use Rattle.ir_parse_parts.specs.Readers.{star_at, folded}
use Rattle.ir_parse_parts.proofs.Stars.{behind}
use Rattle.ir_parse_parts.specs.Classes.{tokens}
use Rattle.ir_parse_parts.specs.MetadataAt.{COMMA}
use Rattle.ir_parse_bodies.specs.Adding.{joined_at}
use Rattle.ir_parse_bodies.specs.CallsAt.{further_argument_at, some_arguments_at}
use Rattle.ir_parse_bodies.proofs.calls.some_arguments_into.Given as goal

abbrev pub invariant-each : goal.invariant-each
invariant-each l = folded behind l.arguments.items (star_at (among tokens COMMA) further_argument_at l.tokens) ≡ joined_at l.fn.arguments.items some_arguments_at l.fn.tokens

abbrev pub decreases-each : goal.decreases-each
decreases-each l = length l.tokens
