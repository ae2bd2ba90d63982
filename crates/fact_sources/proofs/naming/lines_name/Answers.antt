use Rattle.std.proofs.Common.{refl, sym, ◌∙◌}
use Rattle.std.proofs.lemmas.List.{at_drop_all}
use Rattle.fact_sources.specs.Naming.{lines_name}
use Rattle.fact_sources.proofs.Stepping.{met, passed}
use Rattle.fact_sources.proofs.naming.lines_name.Goals as goal

pub loop-line-preserved : goal.loop-line-preserved
loop-line-preserved g c = passed (lines_name (g.L.Locals.members c.args.among.now)) c.args.lines.now c.loop-line.line-index c.line-item.result _ c.loop-line-test.true c.line-item.is refl (sym c.instr_names.ensures ∙ c.if-instr_names.false) ∙ c.loop-line.invariant

pub returns-then-instr_names : goal.returns-then-instr_names
returns-then-instr_names g c = met (lines_name (g.L.Locals.members c.args.among.now)) c.args.lines.now c.loop-line.line-index c.line-item.result _ c.loop-line-test.true c.line-item.is refl (sym c.instr_names.ensures ∙ c.if-instr_names.true) ∙ c.loop-line.invariant

pub returns : goal.returns
returns g c = sym (at_drop_all (lines_name (g.L.Locals.members c.args.among.now)) c.args.lines.now c.loop-line.line-index c.loop-line-test.false) ∙ c.loop-line.invariant
