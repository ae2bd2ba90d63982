use Rattle.std.proofs.Common.{◌<◌, length, subst, arith}
use Rattle.ir_tree.specs.Flow.{Among}
use Rattle.ir_flow.specs.Graph.{row}
use Rattle.slot_promote.specs.Tables.{ends_in, place_in}
use Rattle.slot_promote.proofs.Loops.{block_pushed}
use Rattle.slot_promote.proofs.promotion.blocks.Goals as goal

pub block_from-requires : goal.block_from-requires
block_from-requires c = λ p among.
    let inside : p < length c.args.edges.now = c.requires.inside c.loop-place.place p (subst (Among p) c.of.ensures among) in
    omega (arith, inside, c.requires.edges, c.requires.ends)

pub loop-place-preserved : goal.loop-place-preserved
loop-place-preserved c =
    let inside : c.loop-place.place < length c.args.firsts.now = omega (arith, c.loop-place-test.true, c.requires.firsts) in
    block_pushed (place_in c.args.slots.now) c.args.slots.now.list.items (ends_in (place_in c.args.slots.now) c.args.ends.now) (row c.args.edges.now) c.args.firsts.now _ c.args.blocks.now c.loop-place.place c.loop-place.rows c.push.new.self _
    c.index-blocks-place.result c.in_ok-made.made c.of.result.now c.loop-place-test.true inside c.index-blocks-place.is c.of.ensures c.in_ok-made.ensures c.in_ok-push.ensures.ok c.loop-place.invariant
