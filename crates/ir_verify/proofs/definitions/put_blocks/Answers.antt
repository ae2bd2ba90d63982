use Rattle.std.proofs.Common.{refl}
use Rattle.ir_verify.specs.Definitions.{block_pairs, blocks_pairs}
use Rattle.ir_verify.proofs.Extending.{along_step}
use Rattle.ir_verify.proofs.definitions.put_blocks.Goals as goal

pub loop-place-preserved : goal.loop-place-preserved
loop-place-preserved c =
    along_step blocks_pairs block_pairs (λ k y ys. refl) c.args.blocks.now c.loop-place.place c.index-blocks-place.result _ _ _ c.loop-place-test.true c.index-blocks-place.is c.loop-place.invariant c.in_ok-put_block.ensures
