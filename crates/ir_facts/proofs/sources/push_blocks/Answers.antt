use Rattle.std.proofs.Common.{◌∙◌, refl, subst}
use Rattle.ir_facts.specs.Askable.{BlocksHaveWidths}
use Rattle.ir_facts.specs.Candidates.{block_candidates, blocks_candidates}
use Rattle.ir_edit.proofs.Stepping.{given_more}
use Rattle.fact_sources.proofs.Stepping.{cut_at, walked}
use Rattle.ir_facts.proofs.sources.push_blocks.Goals as goal

pub push_block-requires : goal.push_block-requires
push_block-requires c = record {
  sized = (subst BlocksHaveWidths (cut_at c.args.blocks.now c.loop-block.block-index c.block-item.result c.loop-block-test.true c.block-item.is) c.loop-block.invariant.sized).0;
}

pub loop-block-preserved : goal.loop-block-preserved
loop-block-preserved c = record {
  sized = (subst BlocksHaveWidths (cut_at c.args.blocks.now c.loop-block.block-index c.block-item.result c.loop-block-test.true c.block-item.is) c.loop-block.invariant.sized).1;
  found =
      given_more block_candidates blocks_candidates (λ b bs. refl) c.args.blocks.now c.loop-block.block-index c.block-item.result c.loop-block.found.items c.push_block.new.found.items
      c.loop-block-test.true c.block-item.is c.in_ok-push_block.ensures
      ∙ c.loop-block.invariant.found;
}

pub returns : goal.returns
returns c = walked blocks_candidates c.args.blocks.now c.loop-block.block-index c.loop-block.found.items refl c.loop-block-test.false ∙ c.loop-block.invariant.found
