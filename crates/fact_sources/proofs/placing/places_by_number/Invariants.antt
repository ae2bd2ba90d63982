use Rattle.std.specs.BTreeMap.{get}
use Rattle.std.specs.Ordering.{nat_cmp}
use Rattle.fact_sources.specs.Places.{AreNumbered}
use Rattle.fact_sources.proofs.placing.places_by_number.Given as goal

abbrev pub invariant-loop-place : goal.invariant-loop-place
invariant-loop-place l = AreNumbered l.blocks (get nat_cmp l.places)
