use Rattle.std.proofs.Common.{◌≡◌, length}
use Rattle.ir_parse_parts.specs.Alphabet.{among}
use Rattle.ir_parse_parts.specs.Readers.{star_at, folded, dropped}
use Rattle.ir_parse_parts.specs.Classes.{tokens}
use Rattle.ir_parse_heads.specs.AttributesAt.{CALL, call_attribute_at}
use Rattle.ir_parse_heads.proofs.attributes.call_attributes_at.Given as goal

abbrev pub invariant-each : goal.invariant-each
invariant-each l = folded dropped tt (star_at (among tokens CALL) call_attribute_at l.tokens) ≡ folded dropped tt (star_at (among tokens CALL) call_attribute_at l.fn.tokens)

abbrev pub decreases-each : goal.decreases-each
decreases-each l = length l.tokens
