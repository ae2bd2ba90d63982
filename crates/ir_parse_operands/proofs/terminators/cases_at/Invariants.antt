use Rattle.std.proofs.Common.{◌≡◌, length}
use Rattle.ir_parse_parts.specs.Readers.{folded}
use Rattle.ir_parse_parts.proofs.Stars.{behind}
use Rattle.ir_parse_operands.specs.TerminatorsAt.{cases_at}
use Rattle.ir_parse_operands.proofs.terminators.cases_at.Given as goal

abbrev pub invariant-each : goal.invariant-each
invariant-each l = folded behind l.cases.items (cases_at l.tokens) ≡ cases_at l.fn.tokens

abbrev pub decreases-each : goal.decreases-each
decreases-each l = length l.tokens
