use Rattle.std.proofs.Common.{length, refl}
use Rattle.std.proofs.lemmas.Option.{slice_get_read}
use Rattle.std.specs.BTreeMap.{get}
use Rattle.std.specs.Ordering.{nat_cmp}
use Rattle.fact_sources.proofs.Placed.{block_more}
use Rattle.fact_sources.proofs.placing.places.Goals as goal

pub loop-place-preserved : goal.loop-place-preserved
loop-place-preserved c =
    block_more c.args.blocks.now (get nat_cmp c.loop-place.places) (get nat_cmp c.place_block.new.places) c.loop-place.place c.index-blocks-place.result
    (slice_get_read c.args.blocks.now (length c.args.blocks.now) c.loop-place.place c.index-blocks-place.result refl c.loop-place-test.true c.index-blocks-place.is)
    c.in_ok-place_block.ensures c.loop-place.invariant
