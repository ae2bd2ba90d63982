use Rattle.std.proofs.Common.{◌≡◌, ◌++◌, drop, map}
use Rattle.ir_facts.specs.Askable.{BlocksHaveWidths}
use Rattle.ir_facts.specs.Settled.{settled_block}
use Rattle.ir_facts.proofs.choices.settled_blocks.Given as goal

abbrev pub invariant-loop-block : goal.invariant-loop-block
invariant-loop-block l = record {
  sized : BlocksHaveWidths (drop l.block-index l.blocks);
  rows : l.rows ++ map settled_block (drop l.block-index l.blocks) ≡ map settled_block l.blocks;
}
