use Rattle.std.proofs.Common.{◌≡◌, length}
use Rattle.ir_interp.specs.Code.{counted_before}
use Rattle.machine_code.specs.Blocks.{AreBlocksFor}
use Rattle.machine_code.proofs.addresses.Addresses.blocks_at.Given as goal

abbrev pub invariant-loop-block : goal.invariant-loop-block
invariant-loop-block l = record {
  long : length l.all.items ≡ l.block-index;
  count : l.count ≡ counted_before l.blocks l.block-index;
  each : AreBlocksFor l.self l.blocks l.all.items;
}
