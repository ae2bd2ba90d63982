use Rattle.std.proofs.Common.{◌≡◌, ◌∙◌, ◌<◌, ◌++◌, ◌∷◌, ◌+◌, ◌-◌, ℕ, suc, List, [], length, drop, ap, sym, subst, arith}
use Rattle.std.proofs.lemmas.List.{drop_more}
use Rattle.std.proofs.lemmas.Result.{IfOk-weaker}
use Rattle.ir_tree.specs.Flow.{repeated}
use Rattle.ir_flow.specs.Graph.{row, gathered, IsInverse}
use Rattle.ir_flow.specs.Chained.{AreChains}
use Rattle.ir_flow.proofs.ChainLaws.{chains-same}
use Rattle.ir_flow.proofs.graph.Edges.inverse.Goals as goal

pub loop-place-preserved : goal.loop-place-preserved
loop-place-preserved c = record {
  limit = omega (arith, c.in_ok-lead.ensures.limit, c.loop-place.invariant.limit);
  lists =
      let self : List (List ℕ) = c.args.self.now in
      let i : ℕ = c.loop-place.place in
      let j : ℕ = i - 1 in
      let inside : j < length self = omega arith in
      let next : suc j ≡ i = omega arith in
      let next' : j + 1 ≡ i = omega arith in
      let dropped : drop j self ≡ row self j ∷ drop i self = drop_more self j [] inside ∙ ap (λ (n : ℕ). row self j ∷ drop n self) next' in
      let step : (k : ℕ) → repeated j k c.of.result.now ++ gathered k i (drop i self) ≡ gathered k j (drop j self) =
      λ k. ap (λ (r : List ℕ). repeated j k r ++ gathered k i (drop i self)) c.of.ensures
      ∙ ap (λ (n : ℕ). repeated j k (row self j) ++ gathered k n (drop i self)) (sym next)
      ∙ sym (ap (gathered k j) dropped) in
      chains-same c.lead.new.self.links.items c.lead.new.self.heads.items _ _ step (c.in_ok-lead.ensures.lists (λ k. gathered k i (drop i self)) c.loop-place.invariant.lists);
}

pub returns : goal.returns
returns c =
    let self : List (List ℕ) = c.args.self.now in
    let start : c.loop-place.place ≡ 0 = omega arith in
    let chains = c.loop-place.chains in
    let all = subst (λ (n : ℕ). AreChains chains.links.items chains.heads.items (λ k. gathered k n (drop n self))) start c.loop-place.invariant.lists in
    IfOk-weaker c.rows.result _ (λ e. IsInverse self c.args.limit e)
    (λ e rows. let made = rows (λ k. gathered k 0 self) all in (made.0 ∙ c.loop-place.invariant.limit, λ k h. made.1 k (omega (arith, c.loop-place.invariant.limit, h)))) c.rows.ensures
