use Rattle.std.proofs.Common.{◌≡◌, ◌≤◌, arith, inl, inr, refl, sym, ap, subst, ◌∙◌, true≢false}
use Rattle.std.proofs.lemmas.Bool.{cases_lt}
use Rattle.ir_parse_names.specs.Walks.{next}
use Rattle.ir_parse_stages.specs.Circles.{rank}
use Rattle.ir_parse_stages.specs.Searching.{Among}
use Rattle.ir_parse_stages.proofs.Free.{none_rises}
use Rattle.ir_parse_stages.proofs.circles.never_rises.Goals as goal

pub returns : goal.returns
returns c e = none_rises c.args.graph.now c.args.ranks.now (λ p lt. c.each.invariant p (omega (arith, lt, c.each-test.false, c.len-place-end.ensures)))

pub returns-then-not-are_at_most : goal.returns-then-not-are_at_most
returns-then-not-are_at_most c e = absurd (true≢false (sym e))

pub each-preserved : goal.each-preserved
each-preserved c p lt q a =
    elim (cases_lt p c.each.place) [
      | inl old ↦ c.each.invariant p old q a
      | inr past ↦
          let here : c.each.place ≡ p = omega (arith, lt, past) in
          let row : c.next.result.now ≡ next c.args.graph.now p = c.next.ensures ∙ ap (next c.args.graph.now) here in
          subst (λ n. rank c.args.ranks.now q ≤ rank c.args.ranks.now n) here (subst (λ n. rank c.args.ranks.now q ≤ n) c.rank.ensures (c.if-not-are_at_most.ensures refl q (subst (λ ps. Among q ps) (sym row) a)))
    ]
