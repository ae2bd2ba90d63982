use Rattle.std.proofs.Common.{◌≡◌, ◌++◌, drop}
use Rattle.ir_facts.specs.Askable.{BlocksHaveWidths}
use Rattle.ir_facts.specs.Candidates.{blocks_candidates}
use Rattle.ir_facts.proofs.sources.push_blocks.Given as goal

abbrev pub invariant-loop-block : goal.invariant-loop-block
invariant-loop-block l = record {
  sized : BlocksHaveWidths (drop l.block-index l.blocks);
  found : l.found.items ++ blocks_candidates (drop l.block-index l.blocks) ≡ l.initial.found.items ++ blocks_candidates l.blocks;
}
