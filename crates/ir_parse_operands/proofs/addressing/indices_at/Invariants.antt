use Rattle.std.proofs.Common.{◌≡◌, length, false, []}
use Rattle.ir_parse_parts.specs.Chained.{chain_at}
use Rattle.ir_parse_parts.specs.Readers.{folded}
use Rattle.ir_parse_operands.specs.Addressing.{keep}
use Rattle.ir_parse_operands.specs.AddressingAt.{begins, further_at}
use Rattle.ir_parse_operands.specs.Adding.{anywhere}
use Rattle.ir_parse_operands.proofs.addressing.indices_at.Given as goal

abbrev pub invariant-each : goal.invariant-each
invariant-each l = folded keep l.indices.items (chain_at anywhere begins further_at l.attached l.tokens) ≡ folded keep [] (chain_at anywhere begins further_at false l.fn.tokens)

abbrev pub decreases-each : goal.decreases-each
decreases-each l = length l.tokens
