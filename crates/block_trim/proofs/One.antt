-- Blocks are joined in one way.
use Rattle.std.proofs.Common.{◌≡◌, ℕ, zero, suc, ◌≤◌, ◌<◌, ◌⊎◌, inl, inr, Some, refl, sym, ◌∙◌, ap, subst, arith}
use Rattle.std.specs.Prelude.{slice_get}
use Rattle.ir_tree.specs.Formed.{Distinct, numbers}
use Rattle.ir_tree.specs.declared.block.Block.{Block}
use Rattle.ir_tree.specs.declared.block.Terminator.TheVariants.{Jump}
use Rattle.ir_tree.specs.declared.function.Function.{Function}
use Rattle.block_trim.specs.MergeLaws.{MergeIsOne}
use Rattle.block_trim.specs.Merged.{CanJoin, IsFirst, Joins, joined}
use Rattle.block_trim.proofs.Fitting.{distinct_still, in_behind, same_block}

-- ---- one join

-- two first joins of a function are one
first_is_one : (f : Function) → Distinct (numbers f) → (a y : Block) (can : CanJoin f a y) → IsFirst f can.first.0 → (b z : Block) (other : CanJoin f b z) → IsFirst f other.first.0 → joined a.number y f ≡ joined b.number z f
first_is_one f once a y can a_first b z other b_first = λ i. joined (takers i).number (goers i) f
  where
    takers : a ≡ b
    takers =
        let no_later : can.first.0 ≤ other.first.0 = a_first b z other in
        let no_sooner : other.first.0 ≤ can.first.0 = b_first a y can in
        let place : can.first.0 ≡ other.first.0 = omega (arith, no_later, no_sooner) in
        let both : Some a ≡ Some b = sym can.first.1 ∙ ap (slice_get f.blocks) place ∙ other.first.1 in
        cc both

    goers : y ≡ z
    goers =
        let ends : Jump y.number ≡ Jump z.number = sym can.jumps ∙ ap (λ (x : Block). x.end) takers ∙ other.jumps in
        let number : y.number ≡ z.number = cc ends in
        same_block f.blocks once y z (in_behind f.blocks y can.second) (in_behind f.blocks z other.second) number

-- ---- all joins

-- joins leave each block its own number
once_after : (k : ℕ) (f g : Function) → Distinct (numbers f) → Joins k f g → Distinct (numbers g)
once_after zero f g once is = subst (λ (x : Function). Distinct (numbers x)) (sym is) once
once_after (suc k) f g once (h, a, y, before, can, a_first, is) =
    subst (λ (x : Function). Distinct (numbers x)) (sym is) (distinct_still a.number y h.blocks (once_after k f h once before))

-- so many joins lead to one function
joins_are_one : (k : ℕ) (f g h : Function) → Distinct (numbers f) → Joins k f g → Joins k f h → g ≡ h
joins_are_one zero f g h once g_is h_is = g_is ∙ sym h_is
joins_are_one (suc k) f g h once (m, a, y, a_before, can, a_first, g_is) (n, b, z, b_before, other, b_first, h_is) =
    let same : m ≡ n = joins_are_one k f m n once a_before b_before in
    let step : (c w : Block) (more : CanJoin n c w) → IsFirst n more.first.0 → joined a.number y m ≡ joined c.number w n =
    subst (λ (x : Function). (c w : Block) (more : CanJoin x c w) → IsFirst x more.first.0 → joined a.number y m ≡ joined c.number w x) same (first_is_one m (once_after k f m once a_before) a y can a_first) in
    g_is ∙ step b z other b_first ∙ sym h_is

compared : (k m : ℕ) → (k < m) ⊎ ((k ≡ m) ⊎ (m < k))
compared zero zero = inr (inl refl)
compared zero (suc m) = inl (omega arith)
compared (suc k) zero = inr (inr (omega arith))
compared (suc k) (suc m) = elim (compared k m) [ inl l ↦ inl (omega arith) | inr r ↦ elim r [ inl e ↦ inr (inl (ap suc e)) | inr l ↦ inr (inr (omega arith)) ] ]

-- after so many joins one more can be made
abbrev GoesOn : Function → ℕ → Type 0
GoesOn f k = (g : Function) × (a : Block) × (y : Block) × Joins k f g × CanJoin g a y

-- so it is after each number of joins below one that was made
goes_on : (m k : ℕ) (f h : Function) → k < m → Joins m f h → GoesOn f k
goes_on zero k f h lt joins = absurd (omega (arith, lt))
goes_on (suc m) k f h lt (g, a, y, before, can, a_first, is) = by (compared k m) (λ l. goes_on m k f g l before)
  where
    by : (k < m) ⊎ ((k ≡ m) ⊎ (m < k)) → (k < m → GoesOn f k) → GoesOn f k
    by (inl l) more = more l
    by (inr (inl e)) more = subst (GoesOn f) (sym e) (g, a, y, before, can)
    by (inr (inr l)) more = absurd (omega (arith, lt, l))

-- where none is left no more are made
stops : (k m : ℕ) (f g h : Function) → Distinct (numbers f) → Joins k f g → ((a y : Block) → CanJoin g a y → ⊥) → Joins m f h → k < m → ⊥
stops k m f g h once joins none longer lt = by (goes_on m k f h lt longer)
  where
    by : GoesOn f k → ⊥
    by (x, a, y, before, can) = none a y (subst (λ (z : Function). CanJoin z a y) (joins_are_one k f x g once before joins) can)

pub is_one : MergeIsOne
is_one f g h once (k, joins, none) (m, others, no_others) = by (compared k m)
  where
    by : (k < m) ⊎ ((k ≡ m) ⊎ (m < k)) → g ≡ h
    by (inl l) = absurd (stops k m f g h once joins none others l)
    by (inr (inl e)) = joins_are_one m f g h once (subst (λ (n : ℕ). Joins n f g) e joins) others
    by (inr (inr l)) = absurd (stops m k f h g once others no_others joins l)
