-- How often a number stands in a list, and lists in which each stands once.
use Rattle.std.proofs.Common.{◌≡◌, ℕ, zero, suc, ◌+◌, ◌≤◌, nat_eq, Bool, true, false, List, [], ◌∷◌, ◌++◌, Some, refl, sym, ap, arith, if◌then◌else◌}
use Rattle.std.specs.Prelude.{slice_get}
use Rattle.std.proofs.lemmas.Bool.Decides.{nat_tests}
use Rattle.ir_tree.specs.Formed.{Distinct}

same_number : (x y : ℕ) → nat_eq x y ≡ true → x ≡ y
same_number x y h = grind (arith, nat_tests)

abbrev pub tally : ℕ → List ℕ → ℕ
tally x [] = 0
tally x (y ∷ ys) = (if nat_eq x y then 1 else 0) + tally x ys

pub tally_both : (x : ℕ) (xs ys : List ℕ) → tally x (xs ++ ys) ≡ tally x xs + tally x ys
tally_both x [] ys = omega arith
tally_both x (z ∷ xs) ys = let more : tally x (xs ++ ys) ≡ tally x xs + tally x ys = tally_both x xs ys in omega (arith, more)

pub tally_same : (x y : ℕ) → x ≡ y → 1 ≤ (if nat_eq x y then 1 else 0)
tally_same x y e = by (nat_eq x y) (is x y e)
  where
    is : (x y : ℕ) → x ≡ y → nat_eq x y ≡ true
    is x y e = grind (arith, nat_tests)

    by : (b : Bool) → b ≡ true → 1 ≤ (if b then 1 else 0)
    by true h = omega arith
    by false h = absurd cc

pub counted_at : (x : ℕ) (xs : List ℕ) (i : ℕ) → slice_get xs i ≡ Some x → 1 ≤ tally x xs
counted_at x [] i e = absurd cc
counted_at x (y ∷ ys) zero e = let same : x ≡ y = sym cc in let one : 1 ≤ (if nat_eq x y then 1 else 0) = tally_same x y same in omega (arith, one)
counted_at x (y ∷ ys) (suc i) e = let more : 1 ≤ tally x ys = counted_at x ys i e in omega (arith, more)

abbrev StandsIn : ℕ → List ℕ → Type 0
StandsIn x xs = (i : ℕ) × (slice_get xs i ≡ Some x)

found_in : (x : ℕ) (xs : List ℕ) → 1 ≤ tally x xs → StandsIn x xs
found_in x [] h = absurd (omega (arith, h))
found_in x (y ∷ ys) h = at (nat_eq x y) refl h (found_in x ys)
  where
    after : StandsIn x ys → StandsIn x (y ∷ ys)
    after (i, e) = (suc i, e)

    at : (b : Bool) → nat_eq x y ≡ b → 1 ≤ (if b then 1 else 0) + tally x ys → (1 ≤ tally x ys → StandsIn x ys) → StandsIn x (y ∷ ys)
    at true e h more = (0, ap (λ (n : ℕ). Some n) (sym (same_number x y e)))
    at false e h more = after (more (omega (arith, h)))

pub tally_once : (x : ℕ) (xs : List ℕ) → Distinct xs → tally x xs ≤ 1
tally_once x [] d = omega arith
tally_once x (y ∷ ys) d = at (nat_eq x y) refl (tally_once x ys (λ i j z e g. cc (d (suc i) (suc j) z e g)))
  where
    second : (n : ℕ) → tally x ys ≡ n → x ≡ y → n ≡ 0
    second zero e same = refl
    second (suc n) e same = twice (found_in x ys (omega (arith, e)))
      where
        twice : StandsIn x ys → suc n ≡ 0
        twice (i, g) = absurd (let e : 0 ≡ suc i = d 0 (suc i) x (ap (λ (n : ℕ). Some n) (sym same)) g in omega (arith, e))

    at : (b : Bool) → nat_eq x y ≡ b → tally x ys ≤ 1 → (if b then 1 else 0) + tally x ys ≤ 1
    at true e more = let none : tally x ys ≡ 0 = second (tally x ys) refl (same_number x y e) in omega (arith, none)
    at false e more = omega (arith, more)

pub distinct_by : (xs : List ℕ) → ((x : ℕ) → tally x xs ≤ 1) → Distinct xs
distinct_by [] h i j x e g = absurd cc
distinct_by (y ∷ ys) h zero zero x e g = refl
distinct_by (y ∷ ys) h zero (suc j) x e g =
    let same : x ≡ y = sym cc in
    let one : 1 ≤ (if nat_eq x y then 1 else 0) = tally_same x y same in
    let two : 1 ≤ tally x ys = counted_at x ys j g in
    let all : (if nat_eq x y then 1 else 0) + tally x ys ≤ 1 = h x in
    absurd (omega (arith, one, two, all))
distinct_by (y ∷ ys) h (suc i) zero x e g =
    let same : x ≡ y = sym cc in
    let one : 1 ≤ (if nat_eq x y then 1 else 0) = tally_same x y same in
    let two : 1 ≤ tally x ys = counted_at x ys i e in
    let all : (if nat_eq x y then 1 else 0) + tally x ys ≤ 1 = h x in
    absurd (omega (arith, one, two, all))
distinct_by (y ∷ ys) h (suc i) (suc j) x e g = ap suc (distinct_by ys (λ z. let all : (if nat_eq z y then 1 else 0) + tally z ys ≤ 1 = h z in omega (arith, all)) i j x e g)

pub distinct_less : (xs ys : List ℕ) → ((x : ℕ) → tally x xs ≤ tally x ys) → Distinct ys → Distinct xs
distinct_less xs ys less d =
    distinct_by xs (λ x. let a : tally x xs ≤ tally x ys = less x in let b : tally x ys ≤ 1 = tally_once x ys d in omega (arith, a, b))
