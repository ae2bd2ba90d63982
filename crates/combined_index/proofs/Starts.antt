-- A walk at its starts, and the rows that it follows.
use Rattle.std.proofs.Common.{◌≡◌, ◌∙◌, ◌⊎◌, inl, inr, ℕ, zero, suc, ◌<◌, ◌≤◌, Bool, true, false, List, [], length, replicate, sym, ap, refl, subst, arith}
use Rattle.std.proofs.lemmas.Bool.{cases_lt, false≢true}
use Rattle.std.proofs.lemmas.List.{get_or_past}
use Rattle.std.proofs.lemmas.List.Elements.{All-nil}
use Rattle.std.specs.List.{All, Contains}
use Rattle.lto_sets.specs.Sets.{contains}
use Rattle.combined_index.specs.Reach.{starts}
use Rattle.combined_index.specs.Rows.{AreBelow, row}
use Rattle.combined_index.specs.Walking.{Grown, IsWalk}

nowhere : (n b : ℕ) → contains (replicate n false) b ≡ false
nowhere zero b = refl
nowhere (suc n) zero = refl
nowhere (suc n) (suc b) = nowhere n b

-- the empty set has no member
pub no_member : (n b : ℕ) → contains (replicate n false) b ≡ true → ⊥
no_member n b h = false≢true (sym (nowhere n b) ∙ h)

none_waits : (w : List ℕ) (b : ℕ) → w ≡ [] → Contains w b → ⊥
none_waits w b e h = let l : length w ≡ 0 = ap length e in absurd (omega (arith, h.1, l))

-- a walk that has reached its starts, and nothing before
pub begins : (next : ℕ → List ℕ) (size : ℕ) (ns : List ℕ) (s t : List Bool) (w v : List ℕ) → s ≡ replicate size false → w ≡ [] → Grown s w ns t v → IsWalk (Contains ns) next t v
begins next size ns s t w v s_is w_is g = record {
  sound = λ b h. elim (g.from b h) [ inl k ↦ absurd (empty b k) | inr k ↦ starts b k ];
  begun = g.there;
  marked = λ b h. elim (g.held b h) [ inl k ↦ absurd (none_waits w b w_is k) | inr k ↦ g.there b k ];
  followed = λ b h. elim (g.new b h) [ inl k ↦ absurd (empty b k) | inr k ↦ inl k ];
}
  where
    empty : (b : ℕ) → contains s b ≡ true → ⊥
    empty b h = no_member size b (sym (ap (λ (z : List Bool). contains z b) s_is) ∙ h)

-- the row of a number leads to numbers below the size
pub below_row : (size : ℕ) (rows : List (List ℕ)) (n : ℕ) → AreBelow size rows → All (λ k. k < size) (row rows n)
below_row size rows n below = by (cases_lt n (length rows))
  where
    by : (n < length rows) ⊎ (length rows ≤ n) → All (λ k. k < size) (row rows n)
    by (inl lt) = below n [] lt
    by (inr past) = subst (λ (r : List ℕ). All (λ k. k < size) r) (sym (get_or_past rows n [] past)) (All-nil (λ k. k < size))
