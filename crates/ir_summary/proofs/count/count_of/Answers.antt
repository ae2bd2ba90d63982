use Rattle.std.proofs.Common.{◌∙◌, ◌+◌, ap, arith, length}
use Rattle.ir_tree.specs.declared.block.Block.{Block}
use Rattle.ir_summary.proofs.Walks.{counted_then}
use Rattle.ir_summary.proofs.count.count_of.Goals as goal

pub loop-block-preserved : goal.loop-block-preserved
loop-block-preserved c = record {
  of = c.loop-block.invariant.of;
  rest = counted_then c.as_slice-block-items.result.now c.loop-block.block-index c.block-item.result c.loop-block.count c.in_ok-more.more c.in-Some.next _ (omega arith) c.loop-block.invariant.rest
      (c.in_ok-more.ensures ∙ ap (λ (b : Block). length b.phis + length b.lines + 1) c.block-item.is) c.in-Some.ensures.1;
}
