use Rattle.std.proofs.Common.{[], ◌∷◌, ◌∙◌, refl}
use Rattle.ir_tree.specs.declared.instr.Phi.{Phi}
use Rattle.ir_edit.specs.Numbered.{phi_numbers}
use Rattle.ir_edit.proofs.Stepping.{given_more}
use Rattle.ir_edit.proofs.numbering.push_phis.Goals as goal

pub loop-phi-preserved : goal.loop-phi-preserved
loop-phi-preserved c =
    given_more (λ (p : Phi). p.local ∷ []) phi_numbers (λ x xs. refl) c.args.phis.now c.loop-phi.phi-index c.phi-item.result c.loop-phi.numbers.items c.push.new.self.items c.loop-phi-test.true c.phi-item.is c.in_ok-push.ensures.items
    ∙ c.loop-phi.invariant
