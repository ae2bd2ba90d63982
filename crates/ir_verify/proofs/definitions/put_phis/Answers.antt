use Rattle.std.proofs.Common.{refl, ◌∷◌, []}
use Rattle.std.specs.Prelude.{Some}
use Rattle.ir_verify.specs.Definitions.{phi_pairs, at_home}
use Rattle.ir_verify.proofs.Extending.{along_step}
use Rattle.ir_verify.proofs.definitions.put_phis.Goals as goal

pub loop-phi-preserved : goal.loop-phi-preserved
loop-phi-preserved c =
    along_step (λ k ps. phi_pairs c.args.block ps) (λ k p. at_home p.local (Some p.reg) c.args.block 0 ∷ []) (λ k y ys. refl) c.args.phis.now c.loop-phi.phi-index c.phi-item.result _ _ _ c.loop-phi-test.true c.phi-item.is c.loop-phi.invariant c.in_ok-put.ensures
