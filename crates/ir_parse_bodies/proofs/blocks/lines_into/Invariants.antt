use Rattle.std.proofs.Common.{◌≡◌}
use Rattle.ir_parse_bodies.specs.Blocks.{keep}
use Rattle.ir_parse_bodies.specs.BlocksAt.{all_lines_at}
use Rattle.ir_parse_bodies.proofs.Loops.{counted}
use Rattle.ir_parse_bodies.proofs.blocks.lines_into.Given as goal

abbrev pub invariant-each : goal.invariant-each
invariant-each l = counted keep l.list.lines.items l.left (all_lines_at l.left l.tokens) ≡ counted keep l.fn.list.lines.items l.fn.room (all_lines_at l.fn.room l.fn.tokens)

abbrev pub decreases-each : goal.decreases-each
decreases-each l = l.left
