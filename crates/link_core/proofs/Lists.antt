-- Lists read by `slice_get`, and sums over them.
use Rattle.std.proofs.Common.{◌≡◌, ◌≢◌, ℕ, zero, suc, ◌+◌, ◌≤◌, ◌⊎◌, List, [], ◌∷◌, set, replicate, Some, refl, ap, inl, inr, ⊎_elim, arith}
use Rattle.std.specs.Prelude.{slice_get, sum_by}
use Rattle.std.proofs.lemmas.List.Sums.{sum_by-cons}

module _ {A : Type 0} where
  pub get_set : (l : List A) (i j : ℕ) (a b : A) → slice_get (set l i a) j ≡ Some b → ((j ≡ i) × (a ≡ b)) ⊎ ((j ≢ i) × (slice_get l j ≡ Some b))
  get_set [] i j a b e = absurd (cc e)
  get_set (x ∷ xs) zero zero a b e = inl (refl, cc e)
  get_set (x ∷ xs) zero (suc j) a b e = inr ((λ h. omega arith), e)
  get_set (x ∷ xs) (suc i) zero a b e = inr ((λ h. omega arith), e)
  get_set (x ∷ xs) (suc i) (suc j) a b e = ⊎_elim (λ t. inl (ap suc t.0, t.1)) (λ t. let n = t.0 in inr ((λ h. n (omega arith)), t.1)) (get_set xs i j a b e)

  pub sum_set : (f : A → ℕ) (l : List A) (i : ℕ) (v w : A) → slice_get l i ≡ Some v → sum_by f (set l i w) + f v ≡ sum_by f l + f w
  sum_set f [] i v w e = absurd (cc e)
  sum_set f (x ∷ xs) zero v w e = let is : f x ≡ f v = ap f (let s : x ≡ v = cc e in s) in omega (arith, sum_by-cons f w xs, sum_by-cons f x xs)
  sum_set f (x ∷ xs) (suc i) v w e = let r = sum_set f xs i v w e in omega (arith, sum_by-cons f x xs, sum_by-cons f x (set xs i w))

  pub sum_at : (f : A → ℕ) (l : List A) (i : ℕ) (v : A) → slice_get l i ≡ Some v → f v ≤ sum_by f l
  sum_at f [] i v e = absurd (cc e)
  sum_at f (x ∷ xs) zero v e = let is : f x ≡ f v = ap f (let s : x ≡ v = cc e in s) in omega (arith, sum_by-cons f x xs)
  sum_at f (x ∷ xs) (suc i) v e = let r = sum_at f xs i v e in omega (arith, sum_by-cons f x xs)

  pub sum_none : (f : A → ℕ) (l : List A) → ((j : ℕ) (u : A) → slice_get l j ≡ Some u → f u ≡ 0) → sum_by f l ≡ 0
  sum_none f [] h = refl
  sum_none f (x ∷ xs) h = let a : f x ≡ 0 = h 0 x refl in let r = sum_none f xs (λ j u e. h (suc j) u e) in omega (arith, sum_by-cons f x xs)

  pub replicate_get : (m i : ℕ) (a b : A) → slice_get (replicate m a) i ≡ Some b → a ≡ b
  replicate_get zero i a b e = absurd (cc e)
  replicate_get (suc m) zero a b e = cc e
  replicate_get (suc m) (suc i) a b e = replicate_get m i a b e
