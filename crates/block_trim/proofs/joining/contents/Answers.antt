use Rattle.std.proofs.Common.{nat_eq}
use Rattle.std.specs.HashMap.{get}
use Rattle.block_trim.proofs.Loops.{contents_all, contents_step}
use Rattle.block_trim.proofs.joining.contents.Goals as goal

pub loop-block-preserved : goal.loop-block-preserved
loop-block-preserved c = λ d.
    contents_step c.args.blocks.now c.loop-block.block-index c.block-item.result c.loop-block-test.true c.block-item.is d (get nat_eq c.loop-block.contents) (get nat_eq c.insert.new.self) c.in_ok-content.content
    c.in_ok-content.ensures c.in_ok-insert.ensures.updates.0 (c.loop-block.invariant d)

pub returns : goal.returns
returns c = λ d. contents_all c.args.blocks.now c.loop-block.block-index (get nat_eq c.loop-block.contents) c.loop-block-test.false (c.loop-block.invariant d)
