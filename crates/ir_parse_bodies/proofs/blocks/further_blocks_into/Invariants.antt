use Rattle.std.proofs.Common.{◌≡◌}
use Rattle.ir_parse_parts.proofs.Loops.{with_front}
use Rattle.ir_parse_bodies.specs.BlocksAt.{further_blocks_at}
use Rattle.ir_parse_bodies.proofs.blocks.further_blocks_into.Given as goal

abbrev pub invariant-each : goal.invariant-each
invariant-each l = with_front l.blocks.list.items (further_blocks_at l.room l.left l.tokens) ≡ with_front l.fn.blocks.list.items (further_blocks_at l.fn.further l.fn.instructions l.fn.tokens)

abbrev pub decreases-each : goal.decreases-each
decreases-each l = l.room
