use Rattle.inline_site.proofs.Rooms.{past_more}
use Rattle.inline_site.proofs.free.past_blocks.Goals as goal

pub loop-block-preserved : goal.loop-block-preserved
loop-block-preserved c =
    past_more c.args.blocks.now c.loop-block.block-index c.block-item.result c.loop-block.free c.past_block-free.result _ c.loop-block-test.true c.block-item.is c.past_block-free.ensures c.loop-block.invariant
