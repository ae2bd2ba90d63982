use Rattle.std.proofs.Common.{◌≡◌, length, reverse}
use Rattle.ir_parse_parts.proofs.Loops.{with_front}
use Rattle.ir_parse_operands.specs.ValuesAt.{closing_at}
use Rattle.ir_parse_operands.proofs.values.closing_at.Given as goal

abbrev pub invariant-each : goal.invariant-each
invariant-each l = with_front l.levels.items (closing_at (reverse l.outer.items) l.tokens) ≡ closing_at (reverse l.fn.outer.items) l.fn.tokens

abbrev pub decreases-each : goal.decreases-each
decreases-each l = length l.outer.items
