use Rattle.std.proofs.Common.{◌∙◌, refl}
use Rattle.std.specs.Prelude.{flat_map}
use Rattle.ir_edit.specs.Uses.{block_uses}
use Rattle.ir_edit.proofs.Stepping.{given_more}
use Rattle.ir_edit.proofs.uses.push_uses.Goals as goal

pub loop-block-preserved : goal.loop-block-preserved
loop-block-preserved g c =
    given_more (block_uses g.U.FindUses.of_phi g.U.FindUses.of_line g.U.FindUses.of_read) (flat_map (block_uses g.U.FindUses.of_phi g.U.FindUses.of_line g.U.FindUses.of_read)) (λ x xs. refl) c.args.blocks.now c.loop-block.block-index c.block-item.result c.loop-block.uses.items c.push_block.new.uses.items c.loop-block-test.true c.block-item.is c.in_ok-push_block.ensures
    ∙ c.loop-block.invariant
