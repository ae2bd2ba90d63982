use Rattle.std.proofs.Common.{◌∙◌, refl}
use Rattle.ir_tree.specs.declared.instr.Phi.{Phi}
use Rattle.ir_facts.specs.Candidates.{paired, phi_candidates, phi_source}
use Rattle.ir_edit.proofs.Stepping.{given_more}
use Rattle.ir_facts.proofs.Standing.{of_block}
use Rattle.fact_sources.proofs.Stepping.{walked}
use Rattle.ir_facts.proofs.sources.push_phis_among.Goals as goal

pub loop-phi-preserved : goal.loop-phi-preserved
loop-phi-preserved g c =
    let phis = c.args.phis.now in
    let phi = c.phi-item.result in
    let old = c.loop-phi.found.items in
    record {
      found =
          given_more (λ (p : Phi). paired p.local (phi_source phis p)) (phi_candidates phis) (λ p ps. refl) phis c.loop-phi.phi-index phi old c.push_phi.new.found.items c.loop-phi-test.true
          c.phi-item.is (of_block (g.L.Locals.members c.args.among.now) phis c.requires.own phi old c.push_phi.new.found.items c.in_ok-push_phi.ensures)
          ∙ c.loop-phi.invariant.found;
    }

pub returns : goal.returns
returns g c = walked (phi_candidates c.args.phis.now) c.args.phis.now c.loop-phi.phi-index c.loop-phi.found.items refl c.loop-phi-test.false ∙ c.loop-phi.invariant.found
