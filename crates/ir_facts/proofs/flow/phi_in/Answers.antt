use Rattle.std.proofs.Common.{Bool, Some, if◌then◌else◌, ◌+◌, drop, sym, ap, ◌∙◌}
use Rattle.std.proofs.lemmas.List.{at_drop_all}
use Rattle.std.proofs.lemmas.Bool.{eq-eqb, ne_eqb}
use Rattle.ir_facts.specs.FactFlow.{phi_in}
use Rattle.ir_facts.proofs.Walking.{found_at, looked_past}
use Rattle.ir_facts.proofs.flow.phi_in.Goals as goal

pub returns-then-phi-local : goal.returns-then-phi-local
returns-then-phi-local c =
    found_at (phi_in c.args.local) c.args.phis.now c.loop-phi.phi-index c.phi-item.result (Some c.phi-item.result) c.loop-phi-test.true c.phi-item.is
    (ap (λ (t : Bool). if t then Some c.phi-item.result else phi_in c.args.local (drop (c.loop-phi.phi-index + 1) c.args.phis.now)) (eq-eqb c.phi-item.result.local c.args.local c.if-phi-local.true))
    ∙ c.loop-phi.invariant

pub returns : goal.returns
returns c = sym (at_drop_all (phi_in c.args.local) c.args.phis.now c.loop-phi.phi-index c.loop-phi-test.false) ∙ c.loop-phi.invariant

pub loop-phi-preserved : goal.loop-phi-preserved
loop-phi-preserved c =
    looked_past (phi_in c.args.local) c.args.phis.now c.loop-phi.phi-index c.phi-item.result c.loop-phi-test.true c.phi-item.is
    (ap (λ (t : Bool). if t then Some c.phi-item.result else phi_in c.args.local (drop (c.loop-phi.phi-index + 1) c.args.phis.now)) (ne_eqb c.phi-item.result.local c.args.local c.if-phi-local.false))
    ∙ c.loop-phi.invariant
