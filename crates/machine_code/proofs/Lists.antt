-- Items of lists by their place.
use Rattle.std.proofs.Common.{◌≡◌, ◌⊎◌, inl, inr, ℕ, zero, suc, ◌<◌, List, [], ◌∷◌, ◌++◌, length, get_or, slice_get, take, Some, refl, sym, ap, subst, ◌∙◌, arith}
use Rattle.std.specs.Prelude.{All}
use Rattle.std.proofs.lemmas.List.Elements.{All-head, All-tail}

pub there : {A : Type 0} (xs : List A) (i : ℕ) → i < length xs → (x : A) × (slice_get xs i ≡ Some x)
there [] i l = absurd (omega (arith, l))
there (x ∷ xs) zero l = (x, refl)
there (x ∷ xs) (suc i) l = there xs i (omega (arith, l))

-- what is read at a place is there
pub read_got : {A : Type 0} (xs : List A) (i : ℕ) (x : A) → i < length xs → x ≡ get_or xs i x → slice_get xs i ≡ Some x
read_got [] i x l e = absurd (omega (arith, l))
read_got (a ∷ xs) zero x l e = ap Some (sym e)
read_got (a ∷ xs) (suc i) x l e = read_got xs i x (omega (arith, l)) e

-- what holds of all holds of an item
pub all_got : {A : Type 0} (P : A → Type 0) (xs : List A) (k : ℕ) (x : A) → slice_get xs k ≡ Some x → All P xs → P x
all_got P [] k x g h = absurd (cc g)
all_got {A} P (a ∷ xs) zero x g h = let one : a ≡ x = cc g in subst (λ (z : A). P z) one (All-head P a xs h)
all_got P (a ∷ xs) (suc k) x g h = all_got P xs k x g (All-tail P a xs h)

-- an item of a list with one more is one of the list, or that one
pub got_pushed : {A : Type 0} (xs : List A) (x : A) (k : ℕ) (y : A) → slice_get (xs ++ x ∷ []) k ≡ Some y → (slice_get xs k ≡ Some y) ⊎ ((k ≡ length xs) × (x ≡ y))
got_pushed [] x zero y e = let one : x ≡ y = cc e in inr (refl, one)
got_pushed [] x (suc k) y e = absurd (cc e)
got_pushed (a ∷ xs) x zero y e = inl e
got_pushed {A} (a ∷ xs) x (suc k) y e = next (got_pushed xs x k y e) where
  next : (slice_get xs k ≡ Some y) ⊎ ((k ≡ length xs) × (x ≡ y)) → (slice_get (a ∷ xs) (suc k) ≡ Some y) ⊎ ((suc k ≡ length (a ∷ xs)) × (x ≡ y))
  next (inl h) = inl h
  next (inr h) = inr (omega (arith, h.0), h.1)

pub none_taken : {A : Type 0} (xs : List A) → take zero xs ≡ []
none_taken [] = refl
none_taken (x ∷ xs) = refl

pub take_more : {A : Type 0} (xs : List A) (k : ℕ) (d x : A) → k < length xs → x ≡ get_or xs k d → take k xs ++ x ∷ [] ≡ take (suc k) xs
take_more [] k d x l e = absurd (omega (arith, l))
take_more {A} (y ∷ xs) zero d x l e = ap (λ (z : A). z ∷ []) e ∙ ap (λ (zs : List A). y ∷ zs) (sym (none_taken xs))
take_more {A} (y ∷ xs) (suc k) d x l e = ap (λ (zs : List A). y ∷ zs) (take_more xs k d x (omega (arith, l)) e)
