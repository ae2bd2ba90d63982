use Rattle.std.proofs.Common.{refl, sym, ◌∙◌}
use Rattle.std.proofs.lemmas.List.{at_drop_all}
use Rattle.fact_sources.specs.Naming.{arguments_name}
use Rattle.fact_sources.proofs.Stepping.{met, passed}
use Rattle.fact_sources.proofs.naming.arguments_name.Goals as goal

pub loop-argument-preserved : goal.loop-argument-preserved
loop-argument-preserved g c = passed (arguments_name (g.L.Locals.members c.args.among.now)) c.args.arguments.now c.loop-argument.argument-index c.argument-item.result _ c.loop-argument-test.true c.argument-item.is refl (sym c.is_among.ensures ∙ c.if-is_among.false) ∙ c.loop-argument.invariant

pub returns-then-is_among : goal.returns-then-is_among
returns-then-is_among g c = met (arguments_name (g.L.Locals.members c.args.among.now)) c.args.arguments.now c.loop-argument.argument-index c.argument-item.result _ c.loop-argument-test.true c.argument-item.is refl (sym c.is_among.ensures ∙ c.if-is_among.true) ∙ c.loop-argument.invariant

pub returns : goal.returns
returns g c = sym (at_drop_all (arguments_name (g.L.Locals.members c.args.among.now)) c.args.arguments.now c.loop-argument.argument-index c.loop-argument-test.false) ∙ c.loop-argument.invariant
