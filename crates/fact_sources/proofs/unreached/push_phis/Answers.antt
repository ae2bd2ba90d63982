use Rattle.std.proofs.Common.{[], ◌∷◌, refl, ◌∙◌}
use Rattle.ir_tree.specs.declared.instr.Phi.{Phi}
use Rattle.ir_edit.specs.Numbered.{phi_numbers}
use Rattle.ir_edit.proofs.Stepping.{given_more}
use Rattle.fact_sources.proofs.Stepping.{walked}
use Rattle.fact_sources.proofs.unreached.push_phis.Goals as goal

pub loop-phi-preserved : goal.loop-phi-preserved
loop-phi-preserved c =
    given_more (λ (p : Phi). p.local ∷ []) phi_numbers (λ p ps. refl) c.args.phis.now c.loop-phi.phi-index c.phi-item.result c.loop-phi.locals.items c.push.new.self.items c.loop-phi-test.true
    c.phi-item.is c.in_ok-push.ensures.items
    ∙ c.loop-phi.invariant

pub returns : goal.returns
returns c = walked phi_numbers c.args.phis.now c.loop-phi.phi-index c.loop-phi.locals.items refl c.loop-phi-test.false ∙ c.loop-phi.invariant
