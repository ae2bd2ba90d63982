use Rattle.std.specs.BTreeMap.{get}
use Rattle.std.specs.Ordering.{nat_cmp}
use Rattle.fact_sources.specs.Places.{ArePlaced}
use Rattle.fact_sources.proofs.placing.places.Given as goal

abbrev pub invariant-loop-place : goal.invariant-loop-place
invariant-loop-place l = ArePlaced l.blocks (get nat_cmp l.places)
