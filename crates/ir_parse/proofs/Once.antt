-- Lists of which each element stands once.
use Rattle.std.proofs.Common.{◌≡◌, ℕ, zero, suc, Bool, true, false, ◌||◌, List, [], ◌∷◌, ◌++◌, map, Some, refl, sym, ap, ◌∙◌}
use Rattle.std.specs.Prelude.{slice_get}
use Rattle.std.specs.List.{list_any}
use Rattle.std.specs.Str.{bytes_eq}
use Rattle.std.proofs.lemmas.Slice.Eq.{bytes_eq-Decides}
use Rattle.ir_tree.specs.Formed.{Distinct}
use Rattle.ir_parse_names.specs.Globals.{has_name}

-- an element that isn't in the list
abbrev pub Apart : {X : Type 0} → X → List X → Type 0
Apart x xs = (j : ℕ) → slice_get xs j ≡ Some x → ⊥

abbrev pub Once : {X : Type 0} → List X → Type 0
Once [] = Unit {0}
Once (x ∷ xs) = Apart x xs × Once xs

some_is : {X : Type 0} (x y : X) → Some x ≡ Some y → x ≡ y
some_is x y e = cc

pub distinct : {X : Type 0} (xs : List X) → Once xs → Distinct xs
distinct [] h i j x a b = absurd cc
distinct (y ∷ ys) h zero zero x a b = refl
distinct (y ∷ ys) h zero (suc j) x a b = absurd (h.0 j (b ∙ sym a))
distinct (y ∷ ys) h (suc i) zero x a b = absurd (h.0 i (a ∙ sym b))
distinct (y ∷ ys) h (suc i) (suc j) x a b = ap suc (distinct ys h.1 i j x a b)

apart_push : {X : Type 0} (y x : X) (ys : List X) → Apart y ys → (x ≡ y → ⊥) → Apart y (ys ++ x ∷ [])
apart_push y x [] a n zero e = n (some_is x y e)
apart_push y x [] a n (suc j) e = absurd cc
apart_push y x (z ∷ ys) a n zero e = a 0 e
apart_push y x (z ∷ ys) a n (suc j) e = apart_push y x ys (λ k. a (suc k)) n j e

-- one more
pub once_push : {X : Type 0} (xs : List X) (x : X) → Once xs → Apart x xs → Once (xs ++ x ∷ [])
once_push [] x h a = (a, tt)
once_push (y ∷ ys) x h a = (apart_push y x ys h.0 (λ e. a 0 (ap (λ z. Some z) (sym e))), once_push ys x h.1 (λ j. a (suc j)))

-- what tells elements apart keeps that each stands once
module _ {X Y : Type 0} (f : X → Y) (apart : (x y : X) → f x ≡ f y → x ≡ y) where
  apart_map : (x : X) (xs : List X) → Apart x xs → Apart (f x) (map f xs)
  apart_map x [] a j e = absurd cc
  apart_map x (y ∷ ys) a zero e = a 0 (ap (λ z. Some z) (apart y x (some_is (f y) (f x) e)))
  apart_map x (y ∷ ys) a (suc j) e = apart_map x ys (λ k. a (suc k)) j e

  pub once_map : (xs : List X) → Once xs → Once (map f xs)
  once_map [] h = tt
  once_map (x ∷ xs) h = (apart_map x xs h.0, once_map xs h.1)

-- a name that isn't found
pub unfound : (names : List (List ℕ)) (name : List ℕ) → has_name names name ≡ false → Apart name names
unfound [] name h j e = absurd cc
unfound (n ∷ ns) name h j e = by (λ g k d. unfound ns name g k d) (bytes_eq name n) refl h j e
  where
    by : (has_name ns name ≡ false → Apart name ns) → (b : Bool) → bytes_eq name n ≡ b → (b || list_any (bytes_eq name) ns) ≡ false → (j : ℕ) → slice_get (n ∷ ns) j ≡ Some name → ⊥
    by more true t h j e = absurd cc
    by more false t h zero e = differ (sym ((bytes_eq-Decides name n).1 (sym (some_is n name e))) ∙ t)
      where
        differ : true ≡ false → ⊥
        differ e = cc
    by more false t h (suc j) e = more h j e
