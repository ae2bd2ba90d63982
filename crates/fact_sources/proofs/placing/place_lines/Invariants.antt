use Rattle.std.specs.BTreeMap.{get}
use Rattle.std.specs.Ordering.{nat_cmp}
use Rattle.ir_tree.specs.Flow.{holds, results}
use Rattle.fact_sources.proofs.Placed.{Places}
use Rattle.fact_sources.proofs.placing.place_lines.Given as goal

abbrev pub invariant-loop-line : goal.invariant-loop-line
invariant-loop-line l = Places (get nat_cmp l.places) (get nat_cmp l.initial.places) l.place (λ x. holds (results l.lines) x)
