use Rattle.std.proofs.Common.{◌≡◌, ◌+◌, length, drop}
use Rattle.ir_tree.specs.Items.{items, items_from}
use Rattle.ir_summary.proofs.count.count_of.Given as goal

abbrev pub invariant-loop-block : goal.invariant-loop-block
invariant-loop-block l = record {
  of : l.block-items ≡ l.function.blocks;
  rest : l.count + length (items_from l.block-index (drop l.block-index l.block-items)) ≡ length (items l.function);
}
