use Rattle.std.specs.BTreeMap.{get}
use Rattle.std.specs.Ordering.{nat_cmp}
use Rattle.fact_sources.specs.Places.{phis_give}
use Rattle.fact_sources.proofs.Placed.{Places}
use Rattle.fact_sources.proofs.placing.place_phis.Given as goal

abbrev pub invariant-loop-phi : goal.invariant-loop-phi
invariant-loop-phi l = Places (get nat_cmp l.places) (get nat_cmp l.initial.places) l.place (phis_give l.phis)
