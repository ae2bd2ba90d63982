use Rattle.std.proofs.Common.{◌≡◌, ℕ, drop}
use Rattle.std.specs.BTreeMap as tree
use Rattle.std.specs.Ordering.{nat_cmp}
use Rattle.ir_edit.specs.Numbered.{later_or}
use Rattle.fact_sources.specs.AtPoints.{last_point}
use Rattle.fact_sources.proofs.at_points.last_points.Given as goal

abbrev pub invariant-loop-block : goal.invariant-loop-block
invariant-loop-block l = (n : ℕ) → later_or (last_point l.point (drop l.block-index l.blocks) n) (tree.get nat_cmp l.last n) ≡ last_point 0 l.blocks n
