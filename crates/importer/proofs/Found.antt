-- What is found of the elements of a list.
use Rattle.std.proofs.Common.{◌≡◌, ◌∙◌, ◌⊎◌, inl, inr, List, [], ◌∷◌, Option, Some, None, refl, sym, ap, subst}
use Rattle.std.specs.List.{Contains, cons_option}
use Rattle.std.specs.Prelude.{filter_map}
use Rattle.merge_meaning.proofs.Looked.{some_is}
use Rattle.merge_meaning.proofs.Standing.{first, first_or_later, later, nothing}

-- what is found of an element is in the list of all that is found
pub in_found : {X Y : Type 0} (h : X → Option Y) (xs : List X) (x : X) (y : Y) → Contains xs x → h x ≡ Some y → Contains (filter_map h xs) y
in_found h [] x y c e = absurd (nothing x c)
in_found {X} {Y} h (z ∷ xs) x y c e = by (h z) refl (first_or_later z x xs c) (λ more. in_found h xs x y more e)
  where
    by : (o : Option Y) → h z ≡ o → (z ≡ x) ⊎ Contains xs x → (Contains xs x → Contains (filter_map h xs) y) → Contains (cons_option o (filter_map h xs)) y
    by None is (inl same) rest = absurd (cc (sym is ∙ ap h same ∙ e))
    by None is (inr more) rest = rest more
    by (Some w) is (inl same) rest = subst (λ (v : Y). Contains (w ∷ filter_map h xs) v) (some_is w y (sym is ∙ ap h same ∙ e)) (first w (filter_map h xs))
    by (Some w) is (inr more) rest = later w y (filter_map h xs) (rest more)

-- and each of these comes from one
pub found_from : {X Y : Type 0} (h : X → Option Y) (xs : List X) (y : Y) → Contains (filter_map h xs) y → (x : X) × Contains xs x × (h x ≡ Some y)
found_from h [] y c = absurd (nothing y c)
found_from {X} {Y} h (x ∷ xs) y c = by (h x) refl c (λ more. found_from h xs y more)
  where
    by : (o : Option Y) → h x ≡ o → Contains (cons_option o (filter_map h xs)) y → (Contains (filter_map h xs) y → (z : X) × Contains xs z × (h z ≡ Some y)) → (z : X) × Contains (x ∷ xs) z × (h z ≡ Some y)
    by None is c rest = let found = rest c in (found.0, later x found.0 xs found.1, found.2)
    by (Some w) is c rest = elim (first_or_later w y (filter_map h xs) c) [
      | inl same ↦ (x, first x xs, is ∙ ap (λ (v : Y). Some v) same)
      | inr more ↦ let found = rest more in (found.0, later x found.0 xs found.1, found.2)
    ]
