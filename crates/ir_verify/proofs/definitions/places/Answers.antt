use Rattle.std.proofs.Common.{refl, ◌∷◌, [], arith}
use Rattle.ir_verify.specs.Definitions.{numbered}
use Rattle.ir_verify.proofs.Extending.{along_more, along_all}
use Rattle.ir_verify.proofs.definitions.places.Goals as goal

pub loop-place-preserved : goal.loop-place-preserved
loop-place-preserved c =
    along_more numbered (λ k b. (b.number, k) ∷ []) (λ k y ys. refl) c.args.blocks.now c.loop-place.place _ c.index-blocks-place.result _ _ _ (omega arith) c.loop-place-test.true c.loop-place.invariant c.in_ok-put.ensures

pub returns : goal.returns
returns c = along_all numbered c.args.blocks.now c.loop-place.place _ _ (λ k. refl) (omega arith) c.loop-place.invariant [] c.new-table.ensures
