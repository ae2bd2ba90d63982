-- Sorted lists in which each number stands as often are one.
use Rattle.std.proofs.Common.{◌≡◌, ℕ, zero, suc, ◌+◌, ◌<◌, ◌≤◌, Bool, true, false, List, [], ◌∷◌, length, get_or, refl, sym, ap, ◌∙◌, arith, inl, inr, ◌⊎◌}
use Rattle.std.specs.Prelude.{nat_eq, count_by, cond}
use Rattle.std.specs.List.Sorted.{IsNonDecreasing}
use Rattle.std.proofs.lemmas.List.Sums.{sum_by-cons}
use Rattle.ir_verify.specs.Edged.{SameCounts}

split : (p x : ℕ) (xs : List ℕ) → count_by (λ q. nat_eq q p) (x ∷ xs) ≡ cond (nat_eq x p) 1 0 + count_by (λ q. nat_eq q p) xs
split p x xs = sum_by-cons (λ q. cond (nat_eq q p) 1 0) x xs

counts_none : (xs : List ℕ) (p : ℕ) → ((k : ℕ) → k < length xs → p < get_or xs k 0) → count_by (λ q. nat_eq q p) xs ≡ 0
counts_none [] p above = refl
counts_none (x ∷ xs) p above =
    let here : p < x = above 0 (omega arith) in
    let other : nat_eq x p ≡ false = grind arith in
    let more = counts_none xs p (λ k l. above (suc k) (omega arith)) in
    split p x xs ∙ ap (λ (b : Bool). cond b 1 0 + count_by (λ q. nat_eq q p) xs) other ∙ omega (arith, more)

tail_sorted : (x : ℕ) (xs : List ℕ) → IsNonDecreasing (x ∷ xs) → IsNonDecreasing xs
tail_sorted x xs s = λ i j d l b. s (suc i) (suc j) d (omega arith) (omega arith)

head_least : (x : ℕ) (xs : List ℕ) → IsNonDecreasing (x ∷ xs) → (k : ℕ) → k < length (x ∷ xs) → x ≤ get_or (x ∷ xs) k 0
head_least x xs s k l = s 0 k 0 (omega arith) l

own_count : (x : ℕ) (xs : List ℕ) → 1 ≤ count_by (λ q. nat_eq q x) (x ∷ xs)
own_count x xs =
    let same : nat_eq x x ≡ true = grind arith in
    let e = split x x xs ∙ ap (λ (b : Bool). cond b 1 0 + count_by (λ q. nat_eq q x) xs) same in
    omega (arith, e)

by_order : (i j : ℕ) → (i < j) ⊎ ((i ≡ j) ⊎ (j < i))
by_order zero zero = inr (inl refl)
by_order zero (suc j) = inl (omega arith)
by_order (suc i) zero = inr (inr (omega arith))
by_order (suc i) (suc j) = elim (by_order i j) [ inl l ↦ inl (omega arith) | inr r ↦ elim r [ inl q ↦ inr (inl (ap suc q)) | inr l ↦ inr (inr (omega arith)) ] ]

less_counts : (x y : ℕ) (xs ys : List ℕ) → IsNonDecreasing (y ∷ ys) → SameCounts (x ∷ xs) (y ∷ ys) → x < y → ⊥
less_counts x y xs ys t same l =
    let nothing = counts_none (y ∷ ys) x (λ k b. let least = head_least y ys t k b in omega arith) in
    let some = own_count x xs in
    let e = same x in
    omega (arith, e, nothing, some)

pub counts_same : (xs ys : List ℕ) → IsNonDecreasing xs → IsNonDecreasing ys → SameCounts xs ys → xs ≡ ys
counts_same [] [] s t same = refl
counts_same [] (y ∷ ys) s t same = let some = own_count y ys in let e = same y in absurd (omega (arith, e, some))
counts_same (x ∷ xs) [] s t same = let some = own_count x xs in let e = same x in absurd (omega (arith, e, some))
counts_same (x ∷ xs) (y ∷ ys) s t same =
    elim (by_order x y) [
      | inl l ↦ absurd (less_counts x y xs ys t same l)
      | inr r ↦ elim r [
        | inl q ↦ (let rest : SameCounts xs ys = λ p. (let left = split p x xs in let right = split p y ys in let e = same p in let heads : cond {A = ℕ} (nat_eq x p) 1 0 ≡ cond (nat_eq y p) 1 0 = ap (λ (z : ℕ). cond {A = ℕ} (nat_eq z p) 1 0) q in omega (arith, left, right, e, heads)) in
            ap (λ z. z ∷ xs) q ∙ ap (λ zs. y ∷ zs) (counts_same xs ys (tail_sorted x xs s) (tail_sorted y ys t) rest))
        | inr l ↦ absurd (less_counts y x ys xs s (λ p. sym (same p)) l)
      ]
    ]
