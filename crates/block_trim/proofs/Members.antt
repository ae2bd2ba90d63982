-- Members of lists of numbers, and how often they stand there.
use Rattle.std.proofs.Common.{◌≡◌, ℕ, zero, suc, ◌+◌, ◌≤◌, nat_eq, ◌||◌, ◌⊎◌, inl, inr, Bool, true, false, List, [], ◌∷◌, Option, Some, None, sym, ap, arith, if◌then◌else◌}
use Rattle.std.specs.Prelude.{slice_get, take}
use Rattle.std.specs.List.{cons_option}
use Rattle.std.proofs.lemmas.Bool.{eqb-true, eq-eqb, or_cases, or_left, or_right}
use Rattle.ir_tree.specs.Flow.{holds, results}
use Rattle.ir_tree.specs.declared.instr.Line.{Line}
use Rattle.ir_edit.proofs.Tally.{tally}

pub holds_at : (x : ℕ) (xs : List ℕ) (i : ℕ) → slice_get xs i ≡ Some x → holds xs x ≡ true
holds_at x [] i e = absurd cc
holds_at x (z ∷ xs) zero e = or_left (nat_eq x z) (holds xs x) (eq-eqb x z (sym (cc e)))
holds_at x (z ∷ xs) (suc i) e = or_right (nat_eq x z) (holds xs x) (holds_at x xs i e)

pub place_of : (x : ℕ) (xs : List ℕ) → holds xs x ≡ true → (i : ℕ) × (slice_get xs i ≡ Some x)
place_of x [] h = absurd cc
place_of x (z ∷ xs) h = at (or_cases (nat_eq x z) (holds xs x) h) (place_of x xs)
  where
    further : (i : ℕ) × (slice_get xs i ≡ Some x) → (i : ℕ) × (slice_get (z ∷ xs) i ≡ Some x)
    further (i, e) = (suc i, e)

    at : (nat_eq x z ≡ true) ⊎ (holds xs x ≡ true) → (holds xs x ≡ true → (i : ℕ) × (slice_get xs i ≡ Some x)) → (i : ℕ) × (slice_get (z ∷ xs) i ≡ Some x)
    at (inl e) more = (0, ap (λ (n : ℕ). Some n) (sym (eqb-true x z e)))
    at (inr g) more = further (more g)

pub counted_of : (x : ℕ) (xs : List ℕ) → holds xs x ≡ true → 1 ≤ tally x xs
counted_of x [] h = absurd cc
counted_of x (z ∷ xs) h = at (nat_eq x z) h (counted_of x xs)
  where
    at : (b : Bool) → (b || holds xs x) ≡ true → (holds xs x ≡ true → 1 ≤ tally x xs) → 1 ≤ (if b then 1 else 0) + tally x xs
    at true h more = omega arith
    at false h more = let some : 1 ≤ tally x xs = more h in omega (arith, some)

-- what some first lines define, all of them do
pub results_taken : (x k : ℕ) (ls : List Line) → holds (results (take k ls)) x ≡ true → holds (results ls) x ≡ true
results_taken x zero ls h = absurd cc
results_taken x (suc k) [] h = h
results_taken x (suc k) (l ∷ ls) h = by l.local h (results_taken x k ls)
  where
    by : (o : Option ℕ) → holds (cons_option o (results (take k ls))) x ≡ true → (holds (results (take k ls)) x ≡ true → holds (results ls) x ≡ true) → holds (cons_option o (results ls)) x ≡ true
    by None h more = more h
    by (Some y) h more = at (or_cases (nat_eq x y) (holds (results (take k ls)) x) h)
      where
        at : (nat_eq x y ≡ true) ⊎ (holds (results (take k ls)) x ≡ true) → (nat_eq x y || holds (results ls) x) ≡ true
        at (inl e) = or_left (nat_eq x y) (holds (results ls) x) e
        at (inr g) = or_right (nat_eq x y) (holds (results ls) x) (more g)
