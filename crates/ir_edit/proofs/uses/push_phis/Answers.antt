use Rattle.std.proofs.Common.{◌∙◌, refl}
use Rattle.std.specs.Prelude.{flat_map}
use Rattle.ir_edit.proofs.Stepping.{given_more}
use Rattle.ir_edit.proofs.uses.push_phis.Goals as goal

pub loop-phi-preserved : goal.loop-phi-preserved
loop-phi-preserved g c =
    given_more g.U.FindUses.of_phi (flat_map g.U.FindUses.of_phi) (λ x xs. refl) c.args.phis.now c.loop-phi.phi-index c.phi-item.result c.loop-phi.uses.items c.push_phi.new.uses.items c.loop-phi-test.true c.phi-item.is c.in_ok-push_phi.ensures
    ∙ c.loop-phi.invariant
