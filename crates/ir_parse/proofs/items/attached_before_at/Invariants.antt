use Rattle.std.proofs.Common.{◌≡◌, length}
use Rattle.ir_parse_parts.specs.Alphabet.{among}
use Rattle.ir_parse_parts.specs.Readers.{star_at, folded, dropped}
use Rattle.ir_parse_parts.specs.Classes.{tokens}
use Rattle.ir_parse_parts.specs.Metadata.{META}
use Rattle.ir_parse_parts.specs.MetadataAt.{attached_at}
use Rattle.ir_parse.proofs.items.attached_before_at.Given as goal

abbrev pub invariant-each : goal.invariant-each
invariant-each l = folded dropped tt (star_at (among tokens META) attached_at l.tokens) ≡ folded dropped tt (star_at (among tokens META) attached_at l.fn.tokens)

abbrev pub decreases-each : goal.decreases-each
decreases-each l = length l.tokens
