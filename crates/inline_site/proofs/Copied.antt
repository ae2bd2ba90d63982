-- The callee's blocks numbered, shifted and with arguments for parameters are its copy.
use Rattle.std.proofs.Common.{◌≡◌, ℕ, ◌+◌, ◌<◌, ◌≤◌, ◌⊎◌, inl, inr, ◌==◌, nat_eq, Bool, true, false, List, [], ◌∷◌, ◌++◌, Option, Some, None, map, length, refl, sym, ◌∙◌, ap, arith, append_assoc, length-append, if◌then◌else◌}
use Rattle.std.proofs.lemmas.Bool.{cases_eq, eq-eqb, eqb-true, ne_eqb}
use Rattle.std.proofs.lemmas.List.{map-append}
use Rattle.ir_tree.specs.Flow.{room}
use Rattle.ir_tree.specs.Formed.{Formed}
use Rattle.ir_tree.specs.declared.block.Block.{Block}
use Rattle.ir_tree.specs.declared.function.Function.{Function}
use Rattle.ir_tree.specs.declared.function.Param.{Param}
use Rattle.ir_tree.specs.declared.operand.Argument.{Argument}
use Rattle.ir_tree.specs.declared.operand.Operand.{Operand}
use Rattle.ir_tree.specs.declared.operand.Operand.TheVariants.{Local, Null, Number, Poison, Symbol as Named}
use Rattle.ir_tree.specs.Edited.{block_edited, operand_renamed, shifted}
use Rattle.ir_edit.specs.Numbered.{block_numbers, blocks_numbers, in_text_order, later_or, new_number, numbers_of, or_behind, param_numbers}
use Rattle.ir_edit.specs.OneToOne.{IsOneToOne}
use Rattle.ir_edit.specs.Substituted.{operand_replaced, or_local, replacement, substituted}
use Rattle.ir_edit.proofs.Apart.{is_one_to_one}
use Rattle.ir_edit.proofs.Tally.{tally, tally_both, tally_same}
use Rattle.inline_site.specs.Copies.{added, behind_call, bound, copied, copied_number, copied_operand, first_free}
use Rattle.inline_site.specs.Copying.{empty, opened, shifted_by}
use Rattle.inline_site.proofs.Once.{below_room, last_placed, not_placed, once_each}
use Rattle.inline_site.proofs.Twice.{blocks_twice}
use Rattle.ir_edit.proofs.Counting.{blocks_tally}

-- ---- numbers

-- the numbers of what is opened are those that are added
numbers_opened : (bs : List Block) (n : ℕ) → blocks_numbers (bs ++ empty n ∷ []) ≡ blocks_numbers bs ++ n ∷ []
unfolding block_numbers
numbers_opened [] n = refl
numbers_opened (b ∷ bs) n = ap (λ (l : List ℕ). block_numbers b ++ l) (numbers_opened bs n) ∙ sym (append_assoc (block_numbers b) (blocks_numbers bs) (n ∷ []))

-- the block behind the call comes last
pub behind_is : (free : ℕ) (callee : Function) → behind_call free callee ≡ length (blocks_numbers callee.blocks) + free
unfolding new_number
behind_is free callee =
    ap (λ (o : Option ℕ). or_behind o (first_free callee + length (added callee)) + free) (last_placed 0 (blocks_numbers callee.blocks) (first_free callee)) ∙ omega arith

pub copied_apart : (free : ℕ) (callee : Function) → IsOneToOne (copied_number free callee)
copied_apart free callee x y e = is_one_to_one (added callee) x y (omega (arith, e))

-- a parameter isn't among them
pub param_not_added : (callee : Function) → Formed callee → (x : ℕ) → 1 ≤ tally x (param_numbers callee.params) → tally x (added callee) ≡ 0
param_not_added callee formed x is =
    let most = once_each callee formed x in
    let blocks = blocks_tally x callee.blocks in
    let all : tally x (numbers_of callee) ≡ tally x (param_numbers callee.params) + tally x (blocks_numbers callee.blocks) = tally_both x (param_numbers callee.params) (blocks_numbers callee.blocks) in
    let lt : x < room (numbers_of callee) = below_room x (numbers_of callee) (omega (arith, all, is)) in
    let both : tally x (added callee) ≡ tally x (blocks_numbers callee.blocks) + tally x (first_free callee ∷ []) = tally_both x (blocks_numbers callee.blocks) (first_free callee ∷ []) in
    let none : tally x (first_free callee ∷ []) ≡ 0 = at (nat_eq x (first_free callee)) refl lt in
    omega (arith, most, blocks, both, none, is)
  where
    at : (b : Bool) → nat_eq x (first_free callee) ≡ b → x < room (numbers_of callee) → (if b then 1 else 0) + 0 ≡ 0
    at false e lt = omega arith
    at true e lt = absurd (omega (arith, lt, eqb-true x (first_free callee) e))

param_number : (free : ℕ) (callee : Function) → Formed callee → (by : ℕ) → by ≡ behind_call free callee + 1 → (x : ℕ) → 1 ≤ tally x (param_numbers callee.params)
    → copied_number free callee x ≡ x + by
unfolding new_number
param_number free callee formed by e x is =
    let behind : behind_call free callee ≡ length (blocks_numbers callee.blocks) + free = behind_is free callee in
    let many : length (added callee) ≡ length (blocks_numbers callee.blocks) + length (first_free callee ∷ []) = length-append (blocks_numbers callee.blocks) (first_free callee ∷ []) in
    ap (λ (o : Option ℕ). or_behind o (x + length (added callee)) + free) (not_placed 0 (added callee) x (param_not_added callee formed x is)) ∙ omega (arith, e, behind, many)

-- ---- operands

module _ (number : ℕ → ℕ) (apart : IsOneToOne number) (by : ℕ) where
  test_same : (p x : ℕ) → number p ≡ p + by → ((p + by) == number x) ≡ (p == x)
  test_same p x e = at (cases_eq p x)
    where
      at : (p ≡ x) ⊎ (p ≡ x → ⊥) → ((p + by) == number x) ≡ (p == x)
      at (inl same) = eq-eqb (p + by) (number x) (sym e ∙ ap number same) ∙ sym (eq-eqb p x same)
      at (inr differ) = ne_eqb (p + by) (number x) (λ h. differ (apart p x (e ∙ h))) ∙ sym (ne_eqb p x differ)

  replaced_same : (ps : List Param) (as' : List Argument) → ((x : ℕ) → 1 ≤ tally x (param_numbers ps) → number x ≡ x + by)
      → (x : ℕ) → replacement (map (shifted_by by) (bound ps as')) (number x) ≡ replacement (bound ps as') x
  replaced_same [] as' h x = refl
  replaced_same (p ∷ ps) [] h x = refl
  replaced_same (p ∷ ps) (a ∷ more) h x =
      let here : 1 ≤ (if nat_eq p.local p.local then 1 else 0) = tally_same p.local p.local refl in
      let more_of : (y : ℕ) → 1 ≤ tally y (param_numbers ps) → number y ≡ y + by = λ y k. h y (omega (arith, k)) in
      (λ i. later_or (replaced_same ps more more_of x i) (if test_same p.local x (h p.local (omega (arith, here))) i then Some a.operand else None))

operand_same : (free : ℕ) (callee : Function) → Formed callee → (as' : List Argument) (by : ℕ) → by ≡ behind_call free callee + 1 → (o : Operand)
    → operand_replaced (replacement (map (shifted_by by) (bound callee.params as'))) (operand_renamed (λ x. x + free) (operand_renamed (new_number (added callee)) o)) ≡ copied_operand free callee as' o
operand_same free callee formed as' by e (Local x) =
    ap (λ (v : Option Operand). or_local v (copied_number free callee x))
    (replaced_same (copied_number free callee) (copied_apart free callee) by callee.params as' (param_number free callee formed by e) x)
operand_same free callee formed as' by e (Number width bits) = refl
operand_same free callee formed as' by e Null = refl
operand_same free callee formed as' by e (Poison reg) = refl
operand_same free callee formed as' by e (Named symbol offset) = refl

-- ---- blocks

-- what is numbered and shifted
abbrev pub moved : ℕ → ℕ → Function → Function
moved free last callee = shifted free (in_text_order (opened last callee))

abbrev moved_block : ℕ → Function → Block → Block
moved_block free callee b = block_edited (copied_number free callee) (λ o. operand_renamed (λ x. x + free) (operand_renamed (new_number (added callee)) o)) b

abbrev pairs_of : ℕ → Function → List Argument → List (ℕ × Operand)
pairs_of by callee as' = map (shifted_by by) (bound callee.params as')

moved_blocks : (free last : ℕ) (callee : Function) → last ≡ first_free callee
    → (moved free last callee).blocks ≡ map (block_edited (copied_number free callee) (λ o. operand_renamed (λ x. x + free) (operand_renamed (new_number (added callee)) o))) (callee.blocks ++ empty (first_free callee) ∷ [])
moved_blocks free last callee is =
    ap (λ (n : ℕ). (moved free n callee).blocks) is
    ∙ blocks_twice (λ x. x + free) (new_number (numbers_of (opened (first_free callee) callee))) (operand_renamed (λ x. x + free)) (operand_renamed (new_number (numbers_of (opened (first_free callee) callee))))
    (callee.blocks ++ empty (first_free callee) ∷ [])
    ∙ ap (λ (l : List ℕ). map (block_edited (λ x. new_number l x + free) (λ o. operand_renamed (λ x. x + free) (operand_renamed (new_number l) o))) (callee.blocks ++ empty (first_free callee) ∷ []))
    (numbers_opened callee.blocks (first_free callee))

-- the number of its last block
pub last_is : (free last : ℕ) (callee : Function) (bs : List Block) (n : ℕ) → last ≡ first_free callee → bs ≡ (moved free last callee).blocks
    → ((front : List Block) (b : Block) → bs ≡ front ++ b ∷ [] → n ≡ b.number) → n ≡ behind_call free callee
last_is free last callee bs n is same number =
    number (map (moved_block free callee) callee.blocks) (moved_block free callee (empty (first_free callee))) (same ∙ moved_blocks free last callee is ∙ map-append (moved_block free callee) callee.blocks (empty (first_free callee) ∷ []))

pub copied_is : (free last by : ℕ) (callee : Function) (as' : List Argument) (g : Function) (rows : List Block) → Formed callee → last ≡ first_free callee → g ≡ moved free last callee → by ≡ behind_call free callee + 1
    → rows ≡ (substituted (map (shifted_by by) (bound callee.params as')) g).blocks → rows ≡ copied free callee as' ++ empty (behind_call free callee) ∷ []
copied_is free last by callee as' g rows formed is g_is by_is rows_is =
    rows_is
    ∙ ap (λ (h : Function). (substituted (pairs_of by callee as') h).blocks) g_is
    ∙ ap (map (block_edited (λ x. x) (operand_replaced (replacement (pairs_of by callee as'))))) (moved_blocks free last callee is)
    ∙ blocks_twice (λ x. x) (copied_number free callee) (operand_replaced (replacement (pairs_of by callee as'))) (λ o. operand_renamed (λ x. x + free) (operand_renamed (new_number (added callee)) o))
    (callee.blocks ++ empty (first_free callee) ∷ [])
    ∙ (λ i. map (block_edited (copied_number free callee) (λ o. operand_same free callee formed as' by by_is o i)) (callee.blocks ++ empty (first_free callee) ∷ []))
    ∙ map-append (block_edited (copied_number free callee) (copied_operand free callee as')) callee.blocks (empty (first_free callee) ∷ [])
