use Rattle.std.proofs.Common.{get_or}
use Rattle.std.proofs.lemmas.Option.{slice_get-get_or}
use Rattle.std.specs.BTreeMap.{get}
use Rattle.std.specs.Ordering.{nat_cmp}
use Rattle.fact_sources.proofs.Placed.{number_more}
use Rattle.fact_sources.proofs.placing.places_by_number.Goals as goal

pub loop-place-preserved : goal.loop-place-preserved
loop-place-preserved c =
    number_more c.args.blocks.now (get nat_cmp c.loop-place.places) (get nat_cmp c.insert.new.self) c.loop-place.place
    (get_or c.args.blocks.now c.loop-place.place c.index-blocks-place.result) (slice_get-get_or c.args.blocks.now c.loop-place.place c.index-blocks-place.result c.loop-place-test.true)
    c.in_ok-insert.ensures.updates.0 c.loop-place.invariant
