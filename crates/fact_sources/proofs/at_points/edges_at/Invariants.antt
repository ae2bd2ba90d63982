use Rattle.std.proofs.Common.{◌≡◌, ◌++◌, drop}
use Rattle.std.specs.BTreeMap as tree
use Rattle.std.specs.Ordering.{nat_cmp}
use Rattle.fact_sources.specs.AtPoints.{edges_at}
use Rattle.fact_sources.proofs.at_points.edges_at.Given as goal

abbrev pub invariant-loop-edge : goal.invariant-loop-edge
invariant-loop-edge l = l.rows ++ edges_at l.facts (tree.get nat_cmp l.last) (drop l.edge-index l.incoming) ≡ edges_at l.facts (tree.get nat_cmp l.last) l.incoming
