use Rattle.std.proofs.Common.{refl, subst, sym, ◌∙◌, ap}
use Rattle.std.proofs.lemmas.List.{at_drop_all}
use Rattle.ir_facts.specs.Askable.{BlocksHaveWidths, LinesHaveWidths}
use Rattle.ir_facts.specs.Settled.{any_choice, any_choice_in}
use Rattle.fact_sources.proofs.Stepping.{cut_at, met, passed}
use Rattle.ir_facts.proofs.choices.any_choice_in.Goals as goal

pub any_choice-requires : goal.any_choice-requires
any_choice-requires c = record {
  sized = subst LinesHaveWidths (sym c.as_slice.ensures) (subst BlocksHaveWidths (cut_at c.args.blocks.now c.loop-block.block-index c.block-item.result c.loop-block-test.true c.block-item.is) c.loop-block.invariant.sized).0;
}

pub loop-block-preserved : goal.loop-block-preserved
loop-block-preserved c = record {
  sized = (subst BlocksHaveWidths (cut_at c.args.blocks.now c.loop-block.block-index c.block-item.result c.loop-block-test.true c.block-item.is) c.loop-block.invariant.sized).1;
  same = c.loop-block.invariant.same ∙ sym (passed any_choice_in c.args.blocks.now c.loop-block.block-index c.block-item.result _ c.loop-block-test.true c.block-item.is refl (sym (c.any_choice.ensures ∙ ap any_choice c.as_slice.ensures) ∙ c.if-any_choice.false));
}

pub returns-then-any_choice : goal.returns-then-any_choice
returns-then-any_choice c = met any_choice_in c.args.blocks.now c.loop-block.block-index c.block-item.result _ c.loop-block-test.true c.block-item.is refl (sym (c.any_choice.ensures ∙ ap any_choice c.as_slice.ensures) ∙ c.if-any_choice.true) ∙ sym c.loop-block.invariant.same

pub returns : goal.returns
returns c = sym (c.loop-block.invariant.same ∙ at_drop_all any_choice_in c.args.blocks.now c.loop-block.block-index c.loop-block-test.false)
