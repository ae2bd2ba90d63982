use Rattle.std.proofs.Common.{refl, subst, sym, ◌∙◌}
use Rattle.std.proofs.lemmas.List.{at_drop_all}
use Rattle.ir_facts.specs.Askable.{LinesHaveWidths}
use Rattle.ir_facts.specs.Settled.{any_choice}
use Rattle.fact_sources.proofs.Stepping.{cut_at, met, passed}
use Rattle.ir_facts.proofs.choices.any_choice.Goals as goal

pub has_choice-requires : goal.has_choice-requires
has_choice-requires c = record {
  sized = (subst LinesHaveWidths (cut_at c.args.lines.now c.loop-line.line-index c.line-item.result c.loop-line-test.true c.line-item.is) c.loop-line.invariant.sized).0;
}

pub loop-line-preserved : goal.loop-line-preserved
loop-line-preserved c = record {
  sized = (subst LinesHaveWidths (cut_at c.args.lines.now c.loop-line.line-index c.line-item.result c.loop-line-test.true c.line-item.is) c.loop-line.invariant.sized).1;
  same = c.loop-line.invariant.same ∙ sym (passed any_choice c.args.lines.now c.loop-line.line-index c.line-item.result _ c.loop-line-test.true c.line-item.is refl (sym c.has_choice.ensures ∙ c.if-has_choice.false));
}

pub returns-then-has_choice : goal.returns-then-has_choice
returns-then-has_choice c = met any_choice c.args.lines.now c.loop-line.line-index c.line-item.result _ c.loop-line-test.true c.line-item.is refl (sym c.has_choice.ensures ∙ c.if-has_choice.true) ∙ sym c.loop-line.invariant.same

pub returns : goal.returns
returns c = sym (c.loop-line.invariant.same ∙ at_drop_all any_choice c.args.lines.now c.loop-line.line-index c.loop-line-test.false)
