use Rattle.std.proofs.Common.{map, refl, subst, ◌∙◌}
use Rattle.ir_facts.specs.Askable.{BlocksHaveWidths}
use Rattle.ir_facts.specs.Settled.{settled_block}
use Rattle.ir_edit.proofs.Stepping.{all_made}
use Rattle.fact_sources.proofs.Stepping.{cut_at, walked}
use Rattle.ir_facts.proofs.choices.settled_blocks.Goals as goal

pub settled_block-requires : goal.settled_block-requires
settled_block-requires c = record {
  sized = (subst BlocksHaveWidths (cut_at c.args.blocks.now c.loop-block.block-index c.block-item.result c.loop-block-test.true c.block-item.is) c.loop-block.invariant.sized).0;
}

pub loop-block-preserved : goal.loop-block-preserved
loop-block-preserved c = record {
  sized = (subst BlocksHaveWidths (cut_at c.args.blocks.now c.loop-block.block-index c.block-item.result c.loop-block-test.true c.block-item.is) c.loop-block.invariant.sized).1;
  rows =
      all_made settled_block c.args.blocks.now c.loop-block.block-index c.block-item.result c.in_ok-settled_block.field-0 c.loop-block.rows c.push.new.self c.loop-block-test.true c.block-item.is
      c.in_ok-settled_block.ensures c.in_ok-push.ensures.ok
      ∙ c.loop-block.invariant.rows;
}

pub returns : goal.returns
returns c = walked (map settled_block) c.args.blocks.now c.loop-block.block-index c.loop-block.rows refl c.loop-block-test.false ∙ c.loop-block.invariant.rows
