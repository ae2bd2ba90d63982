-- Tests on truth values and members of lists.
use Rattle.std.proofs.Common.{◌≡◌, ℕ, nat_eq, Bool, true, false, not, ◌&&◌, ◌⊎◌, inl, inr, List, [], ◌∷◌, refl}
use Rattle.std.proofs.lemmas.Bool.{eq-eqb, eqb-true, or_cases, or_left, or_right}
use Rattle.ir_tree.specs.Flow.{Among, holds}

pub and_left : (a b : Bool) → (a && b) ≡ true → a ≡ true
and_left true b h = refl
and_left false b h = absurd cc

pub and_right : (a b : Bool) → (a && b) ≡ true → b ≡ true
and_right true b h = h
and_right false b h = absurd cc

pub not_true : (a : Bool) → not a ≡ true → a ≡ false
not_true true h = absurd cc
not_true false h = refl

pub clash : (a : Bool) → a ≡ true → a ≡ false → ⊥
clash true h g = cc
clash false h g = cc

-- ---- members

pub among_holds : (x : ℕ) (xs : List ℕ) → Among x xs → holds xs x ≡ true
among_holds x [] h = absurd h
among_holds x (y ∷ ys) (inl e) = or_left (nat_eq x y) (holds ys x) (eq-eqb x y e)
among_holds x (y ∷ ys) (inr h) = or_right (nat_eq x y) (holds ys x) (among_holds x ys h)

pub holds_among : (x : ℕ) (xs : List ℕ) → holds xs x ≡ true → Among x xs
holds_among x [] h = absurd cc
holds_among x (y ∷ ys) h = by (or_cases (nat_eq x y) (holds ys x) h) (holds_among x ys)
  where
    by : (nat_eq x y ≡ true) ⊎ (holds ys x ≡ true) → (holds ys x ≡ true → Among x ys) → Among x (y ∷ ys)
    by (inl e) more = inl (eqb-true x y e)
    by (inr h) more = inr (more h)
