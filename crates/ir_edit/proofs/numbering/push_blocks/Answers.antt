use Rattle.std.proofs.Common.{◌∙◌, refl}
use Rattle.ir_edit.specs.Numbered.{block_numbers, blocks_numbers}
use Rattle.ir_edit.proofs.Stepping.{given_more}
use Rattle.ir_edit.proofs.numbering.push_blocks.Goals as goal

pub loop-block-preserved : goal.loop-block-preserved
loop-block-preserved c =
    given_more block_numbers blocks_numbers (λ x xs. refl) c.args.blocks.now c.loop-block.block-index c.block-item.result c.loop-block.numbers.items c.push_block.new.numbers.items c.loop-block-test.true c.block-item.is c.in_ok-push_block.ensures
    ∙ c.loop-block.invariant
