use Rattle.std.proofs.Common.{◌≡◌, ℕ, List, nat_eq, Bool, true, sym, ◌∙◌, ap}
use Rattle.std.specs.BTreeMap.{get}
use Rattle.std.specs.HashSet.{contains}
use Rattle.std.specs.Ordering.{nat_cmp}
use Rattle.std.proofs.lemmas.Result.{IfOk-weaker}
use Rattle.ir_tree.specs.declared.block.Block.{Block}
use Rattle.ir_tree.specs.declared.function.Function.{Function}
use Rattle.ir_flow.specs.Dominating.{dominance}
use Rattle.fact_sources.specs.Above.{is_above}
use Rattle.ir_facts.specs.Clear.{IsClear, barred, blocks_clear}
use Rattle.ir_facts.specs.Scopes.{AreScopes, bars}
use Rattle.ir_facts.specs.declared.scopes.Scopes.{Scopes}
use Rattle.ir_facts.proofs.clear.is_clear.Goals as goal

clear_by : (among : ℕ → Bool) (f : Function) (s : Scopes) → AreScopes among f s → blocks_clear (bars s) (get nat_cmp s.numbers) 0 f.blocks ≡ true → IsClear among f
clear_by among f s are h = record {
  above = is_above (dominance s.above);
  passed = are.above;
  at = get nat_cmp s.places;
  placed = are.placed;
  place = get nat_cmp s.numbers;
  numbered = are.numbered;
  clear = sym (λ i. blocks_clear (barred (λ x. are.inner x i) (λ x. are.over x i) (get nat_cmp s.places) (is_above (dominance s.above))) (get nat_cmp s.numbers) 0 f.blocks) ∙ h;
}

pub returns : goal.returns
returns c =
    let among = contains nat_eq c.args.outside.now in
    let f = c.args.f.now in
    let scopes = c.in_ok-scopes.scopes in
    let clear : List Block → Bool = blocks_clear (bars scopes) (get nat_cmp scopes.numbers) 0 in
    IfOk-weaker c.blocks_clear.result (λ (b : Bool). b ≡ clear c.as_slice.result.now) (λ (b : Bool). b ≡ true → IsClear among f)
    (λ b is e. clear_by among f scopes c.in_ok-scopes.ensures (ap clear (sym c.as_slice.ensures) ∙ sym is ∙ e)) c.blocks_clear.ensures
