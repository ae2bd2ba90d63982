use Rattle.std.proofs.Common.{List, [], ◌∷◌, ◌++◌, refl, ap, ◌∙◌}
use Rattle.std.specs.BTreeMap.{get}
use Rattle.std.specs.Ordering.{nat_cmp}
use Rattle.ir_tree.specs.declared.instr.Incoming.{Incoming}
use Rattle.ir_tree.specs.declared.instr.Phi.{Phi}
use Rattle.fact_sources.specs.AtPoints.{edges_at, phis_at}
use Rattle.ir_edit.proofs.Stepping.{given_more}
use Rattle.fact_sources.proofs.Stepping.{walked}
use Rattle.fact_sources.proofs.at_points.phis_at.Goals as goal

pub loop-phi-preserved : goal.loop-phi-preserved
loop-phi-preserved c =
    let facts = c.args.facts.now in
    let last = get nat_cmp c.args.last.now in
    let phi = c.phi-item.result in
    let old = c.loop-phi.rows in
    given_more (λ (p : Phi). record { local = p.local; reg = p.reg; incoming = edges_at facts last p.incoming } ∷ []) (phis_at facts last) (λ p ps. refl) c.args.phis.now c.loop-phi.phi-index phi old
    c.push.new.self c.loop-phi-test.true c.phi-item.is
    (c.in_ok-push.ensures.ok
    ∙ ap (λ (es : List Incoming). old ++ record { local = phi.local; reg = phi.reg; incoming = es } ∷ []) (c.in_ok-incoming.ensures ∙ ap (edges_at facts last) c.as_slice.ensures))
    ∙ c.loop-phi.invariant

pub returns : goal.returns
returns c = walked (phis_at c.args.facts.now (get nat_cmp c.args.last.now)) c.args.phis.now c.loop-phi.phi-index c.loop-phi.rows refl c.loop-phi-test.false ∙ c.loop-phi.invariant
