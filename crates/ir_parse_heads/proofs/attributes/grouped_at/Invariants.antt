use Rattle.std.proofs.Common.{◌≡◌, length}
use Rattle.ir_parse_parts.specs.Alphabet.{among}
use Rattle.ir_parse_parts.specs.Readers.{star_at, folded}
use Rattle.ir_parse_heads.specs.Attributes.{none_kept, with_attribute, GROUP_WORDS}
use Rattle.ir_parse_parts.specs.Classes.{tokens}
use Rattle.ir_parse_heads.specs.AttributesAt.{GROUPED, function_attribute_at}
use Rattle.ir_parse_heads.proofs.attributes.grouped_at.Given as goal

abbrev pub invariant-each : goal.invariant-each
invariant-each l = folded with_attribute l.kept (star_at (among tokens GROUPED) (function_attribute_at GROUP_WORDS) l.tokens) ≡ folded with_attribute none_kept (star_at (among tokens GROUPED) (function_attribute_at GROUP_WORDS) l.fn.tokens)

abbrev pub decreases-each : goal.decreases-each
decreases-each l = length l.tokens
