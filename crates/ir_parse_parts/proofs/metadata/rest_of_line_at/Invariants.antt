use Rattle.std.proofs.Common.{◌≡◌, length, reverse}
use Rattle.ir_parse_parts.specs.MetadataAt.{rest_of_line_at}
use Rattle.ir_parse_parts.proofs.metadata.rest_of_line_at.Given as goal
use Rattle.ir_parse_parts.proofs.Lines.{from_here}

abbrev pub invariant-each : goal.invariant-each
invariant-each l = from_here l.ended (reverse l.open.items) l.tokens ≡ rest_of_line_at l.fn.ends l.fn.tokens

abbrev pub decreases-each : goal.decreases-each
decreases-each l = length l.tokens
