-- Slots with answers.
use Rattle.std.proofs.Common.{◌≡◌, [], ◌∷◌, ℕ, zero, suc, All, List, Option, None, Some, arith, length, map, set, subst, sym}
use Rattle.std.specs.Prelude.{IfSome, slice_get}
use Rattle.std.specs.List.{AllZip}

module _ {A B : Type 0} (R : A → B → Type 0) where
  -- one of the second list is replaced
  pub zip_set : (xs : List A) (ys : List B) (n : ℕ) (x : A) (y : B) → slice_get xs n ≡ Some x → AllZip R xs ys → R x y → AllZip R xs (set ys n y)
  zip_set [] ys n x y at all one = absurd (cc at)
  zip_set (a ∷ xs) [] n x y at all one = absurd all
  zip_set (a ∷ xs) (b ∷ ys) zero x y at all one = (subst (λ (z : A). R z y) (sym (cc at)) one, all.1)
  zip_set (a ∷ xs) (b ∷ ys) (suc n) x y at all one = (all.0, zip_set xs ys n x y at all.1 one)

  -- nothing is there
  pub zip_none : (xs : List A) (os : List (Option B)) → length os ≡ length xs → All (λ o. o ≡ None) os → AllZip (λ x o. IfSome o (R x)) xs os
  zip_none [] [] same all = tt
  zip_none [] (o ∷ os) same all = absurd (omega (arith, same))
  zip_none (x ∷ xs) [] same all = absurd (omega (arith, same))
  zip_none (x ∷ xs) (o ∷ os) same all =
      (subst (λ (p : Option B). IfSome p (R x)) (sym (all 0 o (omega arith))) tt, zip_none xs os (omega (arith, same)) (λ k d lt. all (suc k) d (omega (arith, lt))))

  -- of those that are there
  pub zip_filled : (xs : List A) (ys : List B) → AllZip (λ x o. IfSome o (R x)) xs (map Some ys) → AllZip R xs ys
  zip_filled [] [] all = tt
  zip_filled [] (y ∷ ys) all = absurd all
  zip_filled (x ∷ xs) [] all = absurd all
  zip_filled (x ∷ xs) (y ∷ ys) all = (all.0, zip_filled xs ys all.1)
