-- Whose turn it is to take another block.
use Rattle.std.proofs.Common.{◌≡◌, ◌≢◌, ℕ, zero, suc, ◌≤◌, ◌<◌, List, length, get_or, Some, None, sym, ◌∙◌, ap, arith}
use Rattle.std.specs.Prelude.{slice_get}
use Rattle.ir_tree.specs.Formed.{Distinct, numbers}
use Rattle.ir_tree.specs.Rules.{place}
use Rattle.ir_tree.specs.declared.block.Block.{Block}
use Rattle.ir_tree.specs.declared.function.Function.{Function}
use Rattle.ir_meaning.proofs.Counting.{place_is}
use Rattle.block_trim.specs.Working.{IsTurnOf, next}
use Rattle.block_trim.specs.declared.joining.Joining.{Joining}
use Rattle.block_trim.proofs.Loops.{element_at}

pub not_below : (n m : ℕ) → (m < n → ⊥) → n ≤ m
not_below zero m h = omega arith
not_below (suc n) zero h = absurd (h (omega arith))
not_below (suc n) (suc m) h = let rest : n ≤ m = not_below n m (λ lt. h (omega (arith, lt))) in omega (arith, rest)

-- it is the turn of the block at a place where each block before that is done
pub turn_at : (f : Function) (j : Joining) (bs : List Block) (i : ℕ) (b : Block) → f.blocks ≡ bs → Distinct (numbers f) → i < length bs → b ≡ get_or bs i b
    → ((k : ℕ) (c : Block) → k < i → slice_get bs k ≡ Some c → next j c.number ≡ None) → IsTurnOf f j b.number
turn_at f j bs i b is once lt item done k c before at =
    let mine : slice_get f.blocks i ≡ Some b = ap (λ (l : List Block). slice_get l i) is ∙ element_at bs i b lt ∙ ap (λ (x : Block). Some x) (sym item) in
    let here : place f.blocks b.number ≡ i = place_is f.blocks once i b mine in
    done k c (omega (arith, before, here)) (ap (λ (l : List Block). slice_get l k) (sym is) ∙ at)

-- and it stays so while nothing new goes into the other blocks
pub turn_still : (f : Function) (old new : Joining) (n : ℕ) → Distinct (numbers f) → ((m : ℕ) → m ≢ n → next old m ≡ None → next new m ≡ None) → IsTurnOf f old n → IsTurnOf f new n
turn_still f old new n once others turn i b lt at = others b.number other (turn i b lt at)
  where
    other : b.number ≢ n
    other s = let here : place f.blocks n ≡ i = ap (place f.blocks) (sym s) ∙ place_is f.blocks once i b at in omega (arith, lt, here)
