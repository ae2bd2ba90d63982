use Rattle.std.proofs.Common.{refl, ◌∷◌, [], arith}
use Rattle.ir_tree.specs.declared.operand.Reg.TheVariants.{Int}
use Rattle.ir_verify.specs.Definitions.{param_pairs, param_pair}
use Rattle.ir_verify.proofs.Extending.{along_more}
use Rattle.ir_verify.proofs.definitions.put_params.Goals as goal

pub loop-param-preserved : goal.loop-param-preserved
loop-param-preserved c =
    along_more (λ k ps. param_pairs ps) (λ k p. param_pair p ∷ []) (λ k y ys. refl) c.args.params.now c.loop-param.param-index _ (record { local = 0; reg = Int 0 }) _ _ _ (omega arith) c.loop-param-test.true c.loop-param.invariant c.in_ok-put.ensures
