-- Which of two lists of numbers holds a number that both of them hold together.
use Rattle.std.proofs.Common.{◌≡◌, ℕ, nat_eq, ◌||◌, ◌⊎◌, inl, inr, true, List, [], ◌∷◌, ◌++◌}
use Rattle.std.proofs.lemmas.Bool.{or_cases, or_left, or_right}
use Rattle.ir_tree.specs.Flow.{holds}

pub holds_front : (x : ℕ) (xs ys : List ℕ) → holds xs x ≡ true → holds (xs ++ ys) x ≡ true
holds_front x [] ys h = absurd cc
holds_front x (z ∷ xs) ys h = at (or_cases (nat_eq x z) (holds xs x) h) (holds_front x xs ys)
  where
    at : (nat_eq x z ≡ true) ⊎ (holds xs x ≡ true) → (holds xs x ≡ true → holds (xs ++ ys) x ≡ true) → (nat_eq x z || holds (xs ++ ys) x) ≡ true
    at (inl e) more = or_left (nat_eq x z) (holds (xs ++ ys) x) e
    at (inr g) more = or_right (nat_eq x z) (holds (xs ++ ys) x) (more g)

pub holds_back : (x : ℕ) (xs ys : List ℕ) → holds ys x ≡ true → holds (xs ++ ys) x ≡ true
holds_back x [] ys h = h
holds_back x (z ∷ xs) ys h = or_right (nat_eq x z) (holds (xs ++ ys) x) (holds_back x xs ys h)

pub holds_either : (x : ℕ) (xs ys : List ℕ) → holds (xs ++ ys) x ≡ true → (holds xs x ≡ true) ⊎ (holds ys x ≡ true)
holds_either x [] ys h = inr h
holds_either x (z ∷ xs) ys h = at (or_cases (nat_eq x z) (holds (xs ++ ys) x) h) (holds_either x xs ys)
  where
    after : (holds xs x ≡ true) ⊎ (holds ys x ≡ true) → ((nat_eq x z || holds xs x) ≡ true) ⊎ (holds ys x ≡ true)
    after (inl e) = inl (or_right (nat_eq x z) (holds xs x) e)
    after (inr e) = inr e

    at : (nat_eq x z ≡ true) ⊎ (holds (xs ++ ys) x ≡ true) → (holds (xs ++ ys) x ≡ true → (holds xs x ≡ true) ⊎ (holds ys x ≡ true)) → ((nat_eq x z || holds xs x) ≡ true) ⊎ (holds ys x ≡ true)
    at (inl e) more = inl (or_left (nat_eq x z) (holds xs x) e)
    at (inr g) more = after (more g)
