use Rattle.std.proofs.Common.{map, subst, ap, sym, ◌∙◌}
use Rattle.ir_facts.specs.Askable.{BlocksHaveWidths}
use Rattle.ir_facts.specs.Settled.{any_choice_in, settled_block}
use Rattle.ir_facts.proofs.Kept.{nothing_settled}
use Rattle.ir_facts.proofs.choices.settled.Goals as goal

pub returns-then-not-any : goal.returns-then-not-any
returns-then-not-any c =
    nothing_settled c.args.f.now (ap any_choice_in (sym c.as_slice.ensures) ∙ sym c.any_choice_in-any.ensures ∙ c.if-not-any.true)

pub settled_blocks-requires : goal.settled_blocks-requires
settled_blocks-requires c = record { sized = subst BlocksHaveWidths (sym c.as_slice-2.ensures) c.requires.sized }

pub returns : goal.returns
returns c =
    let blocks = c.in_ok-blocks.ensures ∙ ap (map settled_block) c.as_slice-2.ensures in
    c.in_ok-g.ensures ∙ (λ i. record c.args.f.now { blocks = blocks i })
