use Rattle.std.proofs.Common.{◌≡◌, ◌∙◌, ◌<◌, ◌++◌, ◌∷◌, ◌+◌, ◌-◌, ℕ, List, length, drop, get_or, cond, nat_eq, ap, arith}
use Rattle.std.proofs.lemmas.List.{drop_more}
use Rattle.ir_tree.specs.Flow.{repeated}
use Rattle.ir_flow.proofs.ChainLaws.{chains-same, repeated-more}
use Rattle.ir_flow.proofs.chains.Chains.lead.Goals as goal

pub loop-i-preserved : goal.loop-i-preserved
loop-i-preserved c = record {
  limit = omega (arith, c.in_ok-put.ensures.limit, c.loop-i.invariant.limit);
  lists = λ lists all.
      let keys : List ℕ = c.args.keys.now in
      let i : ℕ = c.loop-i.i in
      let j : ℕ = i - 1 in
      let t : ℕ = get_or keys j 0 in
      let p : ℕ = c.args.value in
      let inside : j < length keys = omega arith in
      let next : j + 1 ≡ i = omega arith in
      let dropped : drop j keys ≡ t ∷ drop i keys = drop_more keys j 0 inside ∙ ap (λ (n : ℕ). t ∷ drop n keys) next in
      chains-same c.put.new.self.links.items c.put.new.self.heads.items
      (λ k. cond (nat_eq t k) (p ∷ (repeated p k (drop i keys) ++ lists k)) (repeated p k (drop i keys) ++ lists k)) (λ k. repeated p k (drop j keys) ++ lists k)
      (λ k. repeated-more p k t (drop i keys) (drop j keys) (lists k) dropped)
      (c.in_ok-put.ensures.lists (λ k. repeated p k (drop i keys) ++ lists k) (c.loop-i.invariant.lists lists all));
}
