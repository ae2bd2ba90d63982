use Rattle.std.proofs.Common.{◌≡◌, ℕ, List, ◌++◌, drop, false, length, map, sym, ◌∙◌, ap}
use Rattle.std.specs.Prelude.{is_some}
use Rattle.std.proofs.lemmas.List.{length-map, take_at}
use Rattle.ir_tree.specs.declared.block.Block.{Block}
use Rattle.ir_tree.specs.declared.operand.Operand.{Operand}
use Rattle.ir_tree.specs.Edited.{block_edited}
use Rattle.ir_edit.specs.Substituted.{operand_replaced, replacement}
use Rattle.fact_sources.specs.Naming.{blocks_name}
use Rattle.fact_sources.specs.Substitutions.{IsOf, value_in}
use Rattle.fact_sources.specs.declared.substitution.Substitution.{Substitution}
use Rattle.ir_facts.specs.Candidates.{blocks_candidates}
use Rattle.fact_sources.proofs.Unnamed.{blocks_same, nothing, operand_same}
use Rattle.std.proofs.lemmas.Bool.{false≢true}
use Rattle.ir_facts.proofs.in_place.forward.Goals as goal

module _ (found : List (ℕ × Operand)) (s : Substitution) (bs : List Block) (are : found ≡ blocks_candidates bs) (of : IsOf found s) where
  value : (x : ℕ) → value_in s x ≡ replacement (blocks_candidates bs) x
  value x = of x ∙ ap (λ (rs : List (ℕ × Operand)). replacement rs x) are

  same : map (block_edited (λ x. x) (operand_replaced (value_in s))) bs ≡ map (block_edited (λ x. x) (operand_replaced (replacement (blocks_candidates bs)))) bs
  same = λ i. map (block_edited (λ x. x) (operand_replaced (λ x. value x i))) bs

  unused : blocks_name (λ x. is_some (value_in s x)) bs ≡ false
      → bs ≡ map (block_edited (λ x. x) (operand_replaced (replacement (blocks_candidates bs)))) bs
  unused h =
      sym (blocks_same (λ x. is_some (value_in s x)) (operand_replaced (value_in s)) (operand_same (λ x. is_some (value_in s x)) (value_in s) (λ x out. nothing (value_in s x) out)) bs h)
      ∙ same

pub returns-then-not-used-clause-made : goal.returns-then-not-used-clause-made
returns-then-not-used-clause-made c =
    let s = c.in_ok-substitution.substitution in
    let found = c.in_ok-push_blocks.ensures ∙ (λ i. c.new-found.ensures.items i ++ blocks_candidates (c.as_slice.ensures.value i)) in
    unused c.as_slice-2.result.now s c.args.blocks.now.items (c.as_slice-2.ensures.value ∙ found) c.in_ok-substitution.ensures
    (ap (blocks_name (λ x. is_some (value_in s x))) (sym c.as_slice-3.ensures.value) ∙ sym c.is_used-used.ensures ∙ c.if-not-used.true)

pub returns-clause-made : goal.returns-clause-made
returns-clause-made c =
    let blocks = c.args.blocks.now in
    let new = c.replace_all.new.blocks in
    let s = c.in_ok-substitution.substitution in
    let found = c.in_ok-push_blocks.ensures ∙ (λ i. c.new-found.ensures.items i ++ blocks_candidates (c.as_slice.ensures.value i)) in
    let made =
    c.in_ok-replace_all.ensures
    ∙ ap (λ (bs : List Block). map (block_edited (λ x. x) (operand_replaced (value_in s))) bs) c.as_mut_slice.ensures.value
    ∙ same c.as_slice-2.result.now s blocks.items (c.as_slice-2.ensures.value ∙ found) c.in_ok-substitution.ensures in
    let long = ap (λ (bs : List Block). length bs) made ∙ length-map blocks.items (block_edited (λ x. x) (operand_replaced (replacement (blocks_candidates blocks.items)))) ∙ sym blocks.ok.0 in
    take_at new (drop (length new) blocks.items) blocks.len long ∙ made

pub returns-clause-kept : goal.returns-clause-kept
returns-clause-kept c = λ e. absurd (false≢true (sym e))
