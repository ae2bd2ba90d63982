use Rattle.std.proofs.Common.{refl, sym, ◌∙◌}
use Rattle.std.proofs.lemmas.List.{at_drop_all}
use Rattle.fact_sources.specs.Naming.{entries_name}
use Rattle.fact_sources.proofs.Stepping.{met, passed}
use Rattle.fact_sources.proofs.naming.entries_name.Goals as goal

pub loop-entry-preserved : goal.loop-entry-preserved
loop-entry-preserved g c = passed (entries_name (g.L.Locals.members c.args.among.now)) c.args.incoming.now c.loop-entry.entry-index c.entry-item.result _ c.loop-entry-test.true c.entry-item.is refl (sym c.is_among.ensures ∙ c.if-is_among.false) ∙ c.loop-entry.invariant

pub returns-then-is_among : goal.returns-then-is_among
returns-then-is_among g c = met (entries_name (g.L.Locals.members c.args.among.now)) c.args.incoming.now c.loop-entry.entry-index c.entry-item.result _ c.loop-entry-test.true c.entry-item.is refl (sym c.is_among.ensures ∙ c.if-is_among.true) ∙ c.loop-entry.invariant

pub returns : goal.returns
returns g c = sym (at_drop_all (entries_name (g.L.Locals.members c.args.among.now)) c.args.incoming.now c.loop-entry.entry-index c.loop-entry-test.false) ∙ c.loop-entry.invariant
