-- Numbers in lists: that they stand there, how often, and once.
use Rattle.std.proofs.Common.{◌≡◌, ℕ, zero, suc, ◌+◌, ◌<◌, ◌≤◌, nat_eq, ◌||◌, ◌⊎◌, inl, inr, Bool, true, false, List, [], ◌∷◌, ◌++◌, Some, map, refl, sym, ◌∙◌, ap, arith, if◌then◌else◌}
use Rattle.std.proofs.lemmas.Bool.{eqb-true, eq-eqb, ne_eqb, or_cases, or_left, or_right}
use Rattle.ir_tree.specs.Flow.{holds, room}
use Rattle.ir_tree.specs.Formed.{Distinct}
use Rattle.ir_edit.specs.OneToOne.{IsOneToOne}
use Rattle.ir_edit.proofs.Tally.{tally, tally_same}
use Rattle.inline_site.proofs.Elements.{In}
use Rattle.inline_site.proofs.Once.{below_room}

pub in_tally : (x : ℕ) (xs : List ℕ) → In x xs → 1 ≤ tally x xs
in_tally x [] (i, e) = absurd cc
in_tally x (y ∷ ys) (zero, e) = let same : x ≡ y = sym (cc e) in let one : 1 ≤ (if nat_eq x y then 1 else 0) = tally_same x y same in omega (arith, one)
in_tally x (y ∷ ys) (suc i, e) = let more : 1 ≤ tally x ys = in_tally x ys (i, e) in omega (arith, more)

pub below : (x : ℕ) (xs : List ℕ) → In x xs → x < room xs
below x xs h = below_room x xs (in_tally x xs h)

pub holds_in : (x : ℕ) (xs : List ℕ) → In x xs → holds xs x ≡ true
holds_in x [] (i, e) = absurd cc
holds_in x (y ∷ ys) (zero, e) = or_left (nat_eq x y) (holds ys x) (eq-eqb x y (sym (cc e)))
holds_in x (y ∷ ys) (suc i, e) = or_right (nat_eq x y) (holds ys x) (holds_in x ys (i, e))

pub in_holds : (x : ℕ) (xs : List ℕ) → holds xs x ≡ true → In x xs
in_holds x [] h = absurd cc
in_holds x (y ∷ ys) h = by (or_cases (nat_eq x y) (holds ys x) h) (in_holds x ys)
  where
    further : In x ys → In x (y ∷ ys)
    further (i, e) = (suc i, e)

    by : (nat_eq x y ≡ true) ⊎ (holds ys x ≡ true) → (holds ys x ≡ true → In x ys) → In x (y ∷ ys)
    by (inl e) more = (0, ap (λ (n : ℕ). Some n) (sym (eqb-true x y e)))
    by (inr g) more = further (more g)

pub holds_front : (x : ℕ) (xs ys : List ℕ) → holds xs x ≡ true → holds (xs ++ ys) x ≡ true
holds_front x [] ys h = absurd cc
holds_front x (z ∷ xs) ys h = by (or_cases (nat_eq x z) (holds xs x) h) (holds_front x xs ys)
  where
    by : (nat_eq x z ≡ true) ⊎ (holds xs x ≡ true) → (holds xs x ≡ true → holds (xs ++ ys) x ≡ true) → (nat_eq x z || holds (xs ++ ys) x) ≡ true
    by (inl e) more = or_left (nat_eq x z) (holds (xs ++ ys) x) e
    by (inr g) more = or_right (nat_eq x z) (holds (xs ++ ys) x) (more g)

pub holds_back : (x : ℕ) (xs ys : List ℕ) → holds ys x ≡ true → holds (xs ++ ys) x ≡ true
holds_back x [] ys h = h
holds_back x (z ∷ xs) ys h = or_right (nat_eq x z) (holds (xs ++ ys) x) (holds_back x xs ys h)

pub holds_either : (x : ℕ) (xs ys : List ℕ) → holds (xs ++ ys) x ≡ true → (holds xs x ≡ true) ⊎ (holds ys x ≡ true)
holds_either x [] ys h = inr h
holds_either x (z ∷ xs) ys h = by (or_cases (nat_eq x z) (holds (xs ++ ys) x) h) (holds_either x xs ys)
  where
    after : (holds xs x ≡ true) ⊎ (holds ys x ≡ true) → ((nat_eq x z || holds xs x) ≡ true) ⊎ (holds ys x ≡ true)
    after (inl e) = inl (or_right (nat_eq x z) (holds xs x) e)
    after (inr e) = inr e

    by : (nat_eq x z ≡ true) ⊎ (holds (xs ++ ys) x ≡ true) → (holds (xs ++ ys) x ≡ true → (holds xs x ≡ true) ⊎ (holds ys x ≡ true)) → ((nat_eq x z || holds xs x) ≡ true) ⊎ (holds ys x ≡ true)
    by (inl e) more = inl (or_left (nat_eq x z) (holds xs x) e)
    by (inr g) more = after (more g)

-- each number once
pub distinct_by : (xs : List ℕ) → ((x : ℕ) → tally x xs ≤ 1) → Distinct xs
distinct_by [] h i j x e g = absurd cc
distinct_by (y ∷ ys) h zero zero x e g = refl
distinct_by (y ∷ ys) h zero (suc j) x e g =
    let one : 1 ≤ (if nat_eq x y then 1 else 0) = tally_same x y (sym (cc e)) in
    let two : 1 ≤ tally x ys = in_tally x ys (j, g) in
    let all : (if nat_eq x y then 1 else 0) + tally x ys ≤ 1 = h x in
    absurd (omega (arith, one, two, all))
distinct_by (y ∷ ys) h (suc i) zero x e g =
    let one : 1 ≤ (if nat_eq x y then 1 else 0) = tally_same x y (sym (cc g)) in
    let two : 1 ≤ tally x ys = in_tally x ys (i, e) in
    let all : (if nat_eq x y then 1 else 0) + tally x ys ≤ 1 = h x in
    absurd (omega (arith, one, two, all))
distinct_by (y ∷ ys) h (suc i) (suc j) x e g =
    ap suc (distinct_by ys (λ z. let all : (if nat_eq z y then 1 else 0) + tally z ys ≤ 1 = h z in omega (arith, all)) i j x e g)

-- ---- under other numbers, one to one

module _ (new : ℕ → ℕ) (apart : IsOneToOne new) where
  pub same_under : (x y : ℕ) → nat_eq (new x) (new y) ≡ nat_eq x y
  same_under x y = by (nat_eq x y) refl
    where
      by : (b : Bool) → nat_eq x y ≡ b → nat_eq (new x) (new y) ≡ b
      by true e = eq-eqb (new x) (new y) (ap new (eqb-true x y e))
      by false e = ne_eqb (new x) (new y) (λ s. let clash : true ≡ false = sym (eq-eqb x y (apart x y s)) ∙ e in absurd (cc clash))

  pub holds_under : (xs : List ℕ) (x : ℕ) → holds (map new xs) (new x) ≡ holds xs x
  holds_under [] x = refl
  holds_under (y ∷ ys) x = λ i. same_under x y i || holds_under ys x i

  tally_under : (xs : List ℕ) (x : ℕ) → tally (new x) (map new xs) ≡ tally x xs
  tally_under [] x = refl
  tally_under (y ∷ ys) x = λ i. (if same_under x y i then 1 else 0) + tally_under ys x i

  -- a number that stands among them is the new one of another
  pub is_new : (z : ℕ) (xs : List ℕ) → 1 ≤ tally z (map new xs) → (x : ℕ) × (z ≡ new x)
  is_new z [] h = absurd (omega (arith, h))
  is_new z (y ∷ ys) h = by (nat_eq z (new y)) refl h (is_new z ys)
    where
      by : (b : Bool) → nat_eq z (new y) ≡ b → 1 ≤ (if b then 1 else 0) + tally z (map new ys) → (1 ≤ tally z (map new ys) → (x : ℕ) × (z ≡ new x)) → (x : ℕ) × (z ≡ new x)
      by true e h more = (y, eqb-true z (new y) e)
      by false e h more = more (omega (arith, h))

  pub once_under : (xs : List ℕ) → ((x : ℕ) → tally x xs ≤ 1) → (z : ℕ) → tally z (map new xs) ≤ 1
  once_under xs once z = by (tally z (map new xs)) refl
    where
      of : (x : ℕ) × (z ≡ new x) → tally z (map new xs) ≤ 1
      of (x, is) =
          let same : tally z (map new xs) ≡ tally x xs = ap (λ (n : ℕ). tally n (map new xs)) is ∙ tally_under xs x in
          let most : tally x xs ≤ 1 = once x in
          omega (arith, same, most)

      by : (n : ℕ) → tally z (map new xs) ≡ n → n ≤ 1
      by zero e = omega arith
      by (suc n) e = let most : tally z (map new xs) ≤ 1 = of (is_new z xs (omega (arith, e))) in omega (arith, e, most)
