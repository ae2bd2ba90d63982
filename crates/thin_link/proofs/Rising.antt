-- Numbers that were sorted, and stand once each, rise.
use Rattle.std.proofs.Common.{◌≡◌, inl, inr, ℕ, zero, suc, ◌+◌, ◌<◌, ◌≤◌, Bool, cond, nat_eq, List, [], ◌∷◌, length, get_or, sym, ap, subst, arith}
use Rattle.std.proofs.lemmas.Bool.{cases_lt}
use Rattle.std.proofs.lemmas.List.Sorted.{Contains-permutation, IsNonDecreasingBy-from_sort, IsPermutation-sym, sum_by-IsPermutation}
use Rattle.std.proofs.lemmas.List.Sums.{sum_by-cons}
use Rattle.std.specs.List.Sorted.{IsPermutation, IsSorted, IsStrictlyIncreasing}
use Rattle.std.specs.Ordering.{nat_cmp}
use Rattle.combined_index.specs.Combined.{Combined}
use Rattle.combined_index.specs.declared.definition.Definition.{Definition}
use Rattle.thin_link.specs.Plans.{Imports}
use Rattle.thin_link.specs.Walking.{AreFound, copies}
use Rattle.thin_link.proofs.Lists.{one_copy, stands}

cons_copies : (n x : ℕ) (xs : List ℕ) → copies n (x ∷ xs) ≡ cond (nat_eq n x) 1 0 + copies n xs
cons_copies n x xs = sum_by-cons (λ y. cond (nat_eq n y) 1 0) x xs

-- a number that stands at two places that are neighbours
twice : (xs : List ℕ) (k : ℕ) → suc k < length xs → get_or xs k 0 ≡ get_or xs (suc k) 0 → 2 ≤ copies (get_or xs k 0) xs
twice [] k h e = absurd (omega arith)
twice (x ∷ xs) zero h e =
    let one : ◌≡◌ {A = ℕ} (cond (nat_eq x x) 1 0) 1 = ap (λ (b : Bool). cond b 1 0) (one_copy x) in
    let inside : 0 < length xs = omega arith in
    let again : 1 ≤ copies x xs = stands x xs (0, inside, same xs inside e) in
    omega (arith, cons_copies x x xs, one, again)
  where
    same : (ys : List ℕ) → 0 < length ys → x ≡ get_or ys 0 0 → get_or ys 0 x ≡ x
    same [] l f = absurd (omega arith)
    same (y ∷ ys) l f = sym f
twice (x ∷ xs) (suc k) h e =
    let inside : suc k < length xs = omega arith in
    let rest : 2 ≤ copies (get_or xs k 0) xs = twice xs k inside e in
    omega (arith, cons_copies (get_or xs k 0) x xs, rest)

apart : (xs ys : List ℕ) → IsPermutation xs ys → IsSorted nat_cmp ys → ((n : ℕ) → copies n xs ≤ 1) → (k : ℕ) → suc k < length ys → get_or ys k 0 < get_or ys (suc k) 0
apart xs ys moved sorted once k h = elim (cases_lt (get_or ys k 0) (get_or ys (suc k) 0)) [
  | inl l ↦ l
  | inr l ↦ (
      let le : get_or ys k 0 ≤ get_or ys (suc k) 0 = IsNonDecreasingBy-from_sort (λ x. x) ys sorted k (suc k) 0 (omega arith) h in
      let same : get_or ys k 0 ≡ get_or ys (suc k) 0 = omega (arith, le, l) in
      let two : 2 ≤ copies (get_or ys k 0) ys = twice ys k h same in
      let kept : copies (get_or ys k 0) ys ≡ copies (get_or ys k 0) xs = sum_by-IsPermutation (λ y. cond (nat_eq (get_or ys k 0) y) 1 0) xs ys moved in
      let one : copies (get_or ys k 0) xs ≤ 1 = once (get_or ys k 0) in
      absurd (omega (arith, two, kept, one)))
]

rising : (xs ys : List ℕ) → IsPermutation xs ys → IsSorted nat_cmp ys → ((n : ℕ) → copies n xs ≤ 1) → IsStrictlyIncreasing ys
rising xs ys moved sorted once k h =
    let next : suc k ≡ k + 1 = omega arith in
    subst (λ (j : ℕ). get_or ys k 0 < get_or ys j 0) next (apart xs ys moved sorted once k (omega (arith, h)))

pub sorted_imports : (c : Combined) (live : List Bool) (limit : ℕ) (own : List Definition) (xs ys : List ℕ) → IsPermutation xs ys → IsSorted nat_cmp ys → AreFound c live limit own xs
    → Imports c live limit own ys
sorted_imports c live limit own xs ys moved sorted found = record {
  rising = rising xs ys moved sorted found.once;
  imported = λ g. (
    λ h. (found.imported g).0 (Contains-permutation ys xs g (IsPermutation-sym xs ys moved) h),
    λ h. Contains-permutation xs ys g moved ((found.imported g).1 h),
  );
}
