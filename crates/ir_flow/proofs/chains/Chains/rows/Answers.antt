use Rattle.std.proofs.Common.{◌≡◌, ◌∙◌, ◌<◌, ◌+◌, ◌++◌, ℕ, List, length, get_or, None, ap, sym, subst, arith}
use Rattle.ir_flow.specs.Chained.{AreRows, IsChain}
use Rattle.ir_flow.proofs.ChainLaws.{rows-more}
use Rattle.ir_flow.proofs.chains.Chains.rows.Goals as goal

pub loop-head-preserved : goal.loop-head-preserved
loop-head-preserved c lists all =
    let i : ℕ = c.loop-head.head-index in
    let here : i < length c.args.self.now.heads.items = omega (arith, ap length c.deref-head-items.ensures.value) in
    let chain = subst (λ (hs : List _). IsChain c.args.self.now.links.items (get_or hs i None) (lists i)) (sym c.deref-head-items.ensures.value) (all i here) in
    let row : c.deref.result.now ≡ lists i = c.deref.ensures.value ∙ c.in_ok-walk.ensures (lists i) chain ∙ ap (λ (xs : List ℕ). xs ++ lists i) c.clear.ensures.items in
    subst (λ (g : List (List ℕ)). AreRows (i + 1) lists g) (sym c.in_ok-push.ensures) (rows-more i lists c.loop-head.rows c.deref.result.now (c.loop-head.invariant lists all) row)
