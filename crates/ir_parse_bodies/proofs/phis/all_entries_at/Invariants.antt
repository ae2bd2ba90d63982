use Rattle.std.proofs.Common.{◌≡◌, length}
use Rattle.ir_parse_parts.specs.Chained.{chain_at}
use Rattle.ir_parse_parts.specs.Readers.{folded}
use Rattle.ir_parse_operands.specs.Adding.{anywhere}
use Rattle.ir_parse_bodies.specs.Phis.{keep}
use Rattle.ir_parse_bodies.specs.PhisAt.{all_entries_at, begins, further_at}
use Rattle.ir_parse_bodies.proofs.phis.all_entries_at.Given as goal

abbrev pub invariant-each : goal.invariant-each
invariant-each l = folded keep l.entries.items (chain_at anywhere begins (further_at l.fn.reg) l.attached l.tokens) ≡ all_entries_at l.fn.reg l.fn.tokens

abbrev pub decreases-each : goal.decreases-each
decreases-each l = length l.tokens
