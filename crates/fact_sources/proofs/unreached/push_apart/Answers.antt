use Rattle.std.proofs.Common.{◌≡◌, ◌+◌, suc, ◌<◌, length, drop, arith, refl, ◌∙◌}
use Rattle.lto_sets.specs.Sets.{contains}
use Rattle.fact_sources.specs.Apart.{given_apart}
use Rattle.fact_sources.proofs.Outside.{block_given}
use Rattle.fact_sources.proofs.Stepping.{cut_at, walked}
use Rattle.fact_sources.proofs.unreached.push_apart.Goals as goal

pub loop-place-preserved : goal.loop-place-preserved
loop-place-preserved c =
    let blocks = c.args.blocks.now in
    let i = c.loop-place.place in
    let lt : i < length blocks = omega (arith, c.loop-place-test.true, c.size-place-end.ensures, c.requires) in
    let next : i + 1 ≡ suc i = omega arith in
    block_given (contains c.args.inside.now) i (i + 1) c.index-blocks-place.result (drop (i + 1) blocks) (drop i blocks) c.has.result c.loop-place.locals.items c.push_block.new.locals.items
    (cut_at blocks i c.index-blocks-place.result lt c.index-blocks-place.is) next c.has.ensures c.in_ok-push_block.ensures
    ∙ c.loop-place.invariant

pub returns : goal.returns
returns c =
    walked (given_apart (contains c.args.inside.now) c.loop-place.place) c.args.blocks.now c.loop-place.place c.loop-place.locals.items refl
    (omega (arith, c.loop-place-test.false, c.size-place-end.ensures, c.requires))
    ∙ c.loop-place.invariant
