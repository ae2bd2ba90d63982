use Rattle.std.proofs.Common.{◌≡◌, false, nat_eq, sym, ◌∙◌, ap, arith, subst}
use Rattle.std.specs.Result.{IfOk}
use Rattle.std.proofs.lemmas.Bool.{false≢true}
use Rattle.ir_tree.specs.declared.function.Function.{Function}
use Rattle.std.specs.HashSet.{contains}
use Rattle.ir_facts.specs.Askable.{BlocksHaveWidths}
use Rattle.ir_facts.specs.Settled.{any_choice_in}
use Rattle.ir_facts.specs.Blocks.{with_blocks}
use Rattle.ir_facts.specs.Steps.{AreRounds}
use Rattle.ir_facts.proofs.InPlace.{place_last, place_round}
use Rattle.ir_facts.proofs.InRounds.{no_rounds, one_more, round_sound}
use Rattle.ir_facts.proofs.StillApart.{round_apart, round_graph}
use Rattle.ir_facts.proofs.Widths.{formed_wide}
use Rattle.ir_tree.specs.Rules.{Sound}
use Rattle.ir_flow.specs.OfFunction.{IsGraphOf}
use Rattle.fact_sources.specs.Apart.{IsApart}
use Rattle.ir_facts.proofs.rounds.+rounds_in_place.Goals as goal

pub returns-then-left-eq0 : goal.returns-then-left-eq0
returns-then-left-eq0 t c =
    let here = with_blocks c.args.f.now c.args.blocks.items in
    record {
      made = subst (AreRounds c.args.left here) (sym c.in_ok-same.ensures) (no_rounds c.args.left here c.if-left-eq0.true);
      same = λ e. c.in_ok-same.ensures;
    }

pub returns-then-free : goal.returns-then-free
returns-then-free t c = record {
  made = subst (λ (f : Function). IfOk c.rounds.result (λ made. AreRounds c.args.left f made.0)) c.in_ok-whole.ensures c.rounds.ensures.made;
  same = subst (λ (f : Function). IfOk c.rounds.result (λ made. made.1 ≡ false → made.0 ≡ f)) c.in_ok-whole.ensures c.rounds.ensures.same;
}

pub any_choice_in-free-requires : goal.any_choice_in-free-requires
any_choice_in-free-requires t c = record {
  sized = subst BlocksHaveWidths (sym c.as_slice.ensures.value) (formed_wide (with_blocks c.args.f.now c.args.blocks.items) c.requires.sound.formed);
}

pub forward-requires : goal.forward-requires
forward-requires t c = record { sized = formed_wide (with_blocks c.args.f.now c.args.blocks.items) c.requires.sound.formed }

pub returns-then-not-changed : goal.returns-then-not-changed
returns-then-not-changed t c =
    let blocks = c.args.blocks.items in
    let firm = ap any_choice_in (sym c.as_slice.ensures.value) ∙ sym c.any_choice_in-free.ensures ∙ c.if-free.false in
    let new = c.forward.new.blocks.items in
    let here = with_blocks c.args.f.now blocks in
    let kept = c.in_ok-changed.ensures.kept c.if-not-changed.true in
    let made = c.in_ok-same-2.ensures in
    record {
      made =
          subst (AreRounds c.args.left here) (sym made)
          (place_last (contains nat_eq c.args.outside.now) c.requires.none c.args.f.now blocks new c.requires.sound c.requires.apart firm c.in_ok-changed.ensures.made
          c.args.left kept);
      same = λ e. made ∙ ap (with_blocks c.args.f.now) kept;
    }

pub rounds_in_place-requires : goal.rounds_in_place-requires
rounds_in_place-requires t c =
    let among = contains nat_eq c.args.outside.now in
    let blocks = c.args.blocks.items in
    let new = c.forward.new.blocks.items in
    let firm = ap any_choice_in (sym c.as_slice.ensures.value) ∙ sym c.any_choice_in-free.ensures ∙ c.if-free.false in
    let round = place_round among c.requires.none c.args.f.now blocks new c.requires.sound c.requires.apart firm c.in_ok-changed.ensures.made in (
      omega arith,
      (
        round_sound (with_blocks c.args.f.now blocks) (with_blocks c.args.f.now new) c.requires.sound round,
        (
          round_graph c.args.edges.now (with_blocks c.args.f.now blocks) (with_blocks c.args.f.now new) round c.requires.graph,
          (round_apart among (with_blocks c.args.f.now blocks) (with_blocks c.args.f.now new) round c.requires.apart, c.requires.none),
        ),
      ),
    )

pub returns : goal.returns
returns t c =
    let blocks = c.args.blocks.items in
    let new = c.forward.new.blocks.items in
    let firm = ap any_choice_in (sym c.as_slice.ensures.value) ∙ sym c.any_choice_in-free.ensures ∙ c.if-free.false in
    let round = place_round (contains nat_eq c.args.outside.now) c.requires.none c.args.f.now blocks new c.requires.sound c.requires.apart firm c.in_ok-changed.ensures.made in
    record {
      made = one_more c.args.left (with_blocks c.args.f.now blocks) (with_blocks c.args.f.now new) c.in_ok-g.g (omega arith) round c.in_ok-g.ensures.made;
      same = λ e. absurd (false≢true (sym e));
    }

pub rounds-requires-clause-sound : goal.rounds-requires-clause-sound
rounds-requires-clause-sound t c = subst Sound (sym c.in_ok-whole.ensures) c.requires.sound

pub rounds-requires-clause-graph : goal.rounds-requires-clause-graph
rounds-requires-clause-graph t c = subst (λ (f : Function). IsGraphOf f c.args.edges.now) (sym c.in_ok-whole.ensures) c.requires.graph

pub rounds-requires-clause-apart : goal.rounds-requires-clause-apart
rounds-requires-clause-apart t c = subst (λ (f : Function). IsApart f (contains nat_eq c.args.outside.now)) (sym c.in_ok-whole.ensures) c.requires.apart
