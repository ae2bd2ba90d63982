use Rattle.std.proofs.Common.{◌≡◌, length}
use Rattle.ir_parse_parts.specs.Readers.{folded}
use Rattle.ir_parse_parts.proofs.Stars.{behind}
use Rattle.ir_parse_operands.specs.ValuesAt.{all_openings_at, openings_at}
use Rattle.ir_parse_operands.proofs.values.all_openings_at.Given as goal

abbrev pub invariant-each : goal.invariant-each
invariant-each l = folded behind l.levels.items (openings_at l.tokens) ≡ all_openings_at l.fn.tokens

abbrev pub decreases-each : goal.decreases-each
decreases-each l = length l.tokens
