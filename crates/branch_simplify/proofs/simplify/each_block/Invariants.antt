use Rattle.std.proofs.Common.{◌≡◌, ◌++◌, map, drop}
use Rattle.branch_simplify.specs.Simplified.{simplified_block}
use Rattle.branch_simplify.specs.Tables.{lost_at}
use Rattle.branch_simplify.proofs.simplify.each_block.Given as goal

abbrev pub invariant-loop-old : goal.invariant-loop-old
invariant-loop-old l = l.rows ++ map (simplified_block (lost_at l.lost)) (drop l.old-index l.blocks) ≡ map (simplified_block (lost_at l.lost)) l.blocks
