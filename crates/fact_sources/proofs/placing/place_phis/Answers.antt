use Rattle.std.proofs.Common.{◌+◌, drop}
use Rattle.std.specs.BTreeMap.{get}
use Rattle.std.specs.Ordering.{nat_cmp}
use Rattle.fact_sources.specs.Places.{phis_give}
use Rattle.fact_sources.proofs.Placed.{one_more, phi_gives}
use Rattle.fact_sources.proofs.Stepping.{cut_at}
use Rattle.fact_sources.proofs.placing.place_phis.Goals as goal

pub loop-phi-preserved : goal.loop-phi-preserved
loop-phi-preserved c =
    let phis = c.args.phis.now in
    let i = c.loop-phi.phi-index in
    let phi = c.phi-item.result in
    let cut = cut_at phis i phi c.loop-phi-test.true c.phi-item.is in
    one_more (get nat_cmp c.args.places.now) (get nat_cmp c.loop-phi.places) (get nat_cmp c.insert.new.self) c.args.place phi.local (phis_give phis)
    (phi_gives phis i phi (drop (i + 1) phis) cut) c.in_ok-insert.ensures.updates.0 c.loop-phi.invariant
