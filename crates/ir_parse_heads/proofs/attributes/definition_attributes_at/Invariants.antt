use Rattle.std.proofs.Common.{◌≡◌, length}
use Rattle.ir_parse_parts.specs.Alphabet.{among}
use Rattle.ir_parse_parts.specs.Readers.{star_at, folded}
use Rattle.ir_parse_heads.specs.Attributes.{none_kept, with_attribute}
use Rattle.ir_parse_parts.specs.Classes.{tokens}
use Rattle.ir_parse_heads.specs.AttributesAt.{DEFINITION, definition_attribute_at}
use Rattle.ir_parse_heads.proofs.attributes.definition_attributes_at.Given as goal

abbrev pub invariant-each : goal.invariant-each
invariant-each l = folded with_attribute l.kept (star_at (among tokens DEFINITION) definition_attribute_at l.tokens) ≡ folded with_attribute none_kept (star_at (among tokens DEFINITION) definition_attribute_at l.fn.tokens)

abbrev pub decreases-each : goal.decreases-each
decreases-each l = length l.tokens
