use Rattle.std.proofs.Common.{◌≡◌, length, [], ◌∷◌}
use Rattle.ir_parse_parts.specs.Alphabet.{among}
use Rattle.ir_parse_parts.specs.Readers.{star_at, folded}
use Rattle.ir_parse_parts.proofs.Stars.{behind}
use Rattle.ir_parse_parts.specs.Classes.{tokens}
use Rattle.ir_parse_parts.specs.MetadataAt.{COMMA}
use Rattle.ir_parse_bodies.specs.CallsAt.{further_type_at}
use Rattle.ir_parse_bodies.proofs.calls.types_behind_at.Given as goal

abbrev pub invariant-each : goal.invariant-each
invariant-each l = folded behind l.types.items (star_at (among tokens COMMA) further_type_at l.tokens) ≡ folded behind (l.fn.first ∷ []) (star_at (among tokens COMMA) further_type_at l.fn.tokens)

abbrev pub decreases-each : goal.decreases-each
decreases-each l = length l.tokens
