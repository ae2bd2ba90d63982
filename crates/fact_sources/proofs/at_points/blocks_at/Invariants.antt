use Rattle.std.proofs.Common.{◌≡◌, ◌++◌, drop}
use Rattle.std.specs.BTreeMap as tree
use Rattle.std.specs.Ordering.{nat_cmp}
use Rattle.fact_sources.specs.AtPoints.{blocks_at}
use Rattle.fact_sources.proofs.at_points.blocks_at.Given as goal

abbrev pub invariant-loop-block : goal.invariant-loop-block
invariant-loop-block l = l.rows ++ blocks_at l.facts (tree.get nat_cmp l.last) l.point (drop l.block-index l.blocks) ≡ blocks_at l.facts (tree.get nat_cmp l.last) 0 l.blocks
