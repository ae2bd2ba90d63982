use Rattle.std.proofs.Common.{refl, sym, ◌∙◌, ap}
use Rattle.std.proofs.lemmas.List.{at_drop_all}
use Rattle.fact_sources.specs.Naming.{entries_name, phis_name}
use Rattle.fact_sources.proofs.Stepping.{met, passed}
use Rattle.fact_sources.proofs.naming.phis_name.Goals as goal

pub loop-phi-preserved : goal.loop-phi-preserved
loop-phi-preserved g c = passed (phis_name (g.L.Locals.members c.args.among.now)) c.args.phis.now c.loop-phi.phi-index c.phi-item.result _ c.loop-phi-test.true c.phi-item.is refl (sym (c.entries_name.ensures ∙ ap (entries_name (g.L.Locals.members c.args.among.now)) c.as_slice.ensures) ∙ c.if-entries_name.false) ∙ c.loop-phi.invariant

pub returns-then-entries_name : goal.returns-then-entries_name
returns-then-entries_name g c = met (phis_name (g.L.Locals.members c.args.among.now)) c.args.phis.now c.loop-phi.phi-index c.phi-item.result _ c.loop-phi-test.true c.phi-item.is refl (sym (c.entries_name.ensures ∙ ap (entries_name (g.L.Locals.members c.args.among.now)) c.as_slice.ensures) ∙ c.if-entries_name.true) ∙ c.loop-phi.invariant

pub returns : goal.returns
returns g c = sym (at_drop_all (phis_name (g.L.Locals.members c.args.among.now)) c.args.phis.now c.loop-phi.phi-index c.loop-phi-test.false) ∙ c.loop-phi.invariant
