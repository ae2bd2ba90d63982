use Rattle.std.proofs.Common.{◌≡◌, ◌++◌, drop}
use Rattle.std.specs.BTreeMap as tree
use Rattle.std.specs.Ordering.{nat_cmp}
use Rattle.fact_sources.specs.AtPoints.{phis_at}
use Rattle.fact_sources.proofs.at_points.phis_at.Given as goal

abbrev pub invariant-loop-phi : goal.invariant-loop-phi
invariant-loop-phi l = l.rows ++ phis_at l.facts (tree.get nat_cmp l.last) (drop l.phi-index l.phis) ≡ phis_at l.facts (tree.get nat_cmp l.last) l.phis
