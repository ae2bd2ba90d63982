-- Places in lists, and relations of two lists one behind another.
use Rattle.std.proofs.Common.{◌≡◌, ◌∙◌, ◌⊎◌, inl, inr, ℕ, zero, suc, Bool, true, false, cond, List, [], ◌∷◌, ◌++◌, All, Option, Some, None, ◌+◌, length, refl, ap, sym, subst}
use Rattle.std.specs.Prelude.{Contains, filter, filter_map, flat_map, map, slice_get}
use Rattle.std.specs.List.{AllZip, cons_option, find}
use Rattle.std.proofs.lemmas.List.{length_push}
use Rattle.std.proofs.lemmas.Option.{get_or_from_slice_get, slice_get-get_or, slice_get_within}
use Rattle.std.proofs.lemmas.List.Elements.{All-cons, All-head, All-nil, All-tail}

-- it stands in the list, at this place
abbrev pub Stands : {X : Type 0} → List X → X → Type 0
Stands xs x = (i : ℕ) × (slice_get xs i ≡ Some x)

pub at_first : {X : Type 0} (x : X) (xs : List X) → Stands (x ∷ xs) x
at_first x xs = (0, refl)

pub further : {X : Type 0} (y : X) (xs : List X) (x : X) → Stands xs x → Stands (y ∷ xs) x
further y xs x (i, here) = (suc i, here)

pub first_or_later : {X : Type 0} (y : X) (xs : List X) (x : X) → Stands (y ∷ xs) x → (y ≡ x) ⊎ Stands xs x
first_or_later y xs x (zero, here) = inl (cc here)
first_or_later y xs x (suc i, here) = inr (i, here)

pub in_front : {X : Type 0} (xs ys : List X) (x : X) → Stands xs x → Stands (xs ++ ys) x
in_front [] ys x (i, here) = absurd (cc here)
in_front (y ∷ xs) ys x (zero, here) = (zero, here)
in_front (y ∷ xs) ys x (suc i, here) = further y (xs ++ ys) x (in_front xs ys x (i, here))

pub behind : {X : Type 0} (xs ys : List X) (x : X) → Stands ys x → Stands (xs ++ ys) x
behind [] ys x s = s
behind (y ∷ xs) ys x s = further y (xs ++ ys) x (behind xs ys x s)

pub either_part : {X : Type 0} (xs ys : List X) (x : X) → Stands (xs ++ ys) x → Stands xs x ⊎ Stands ys x
either_part [] ys x s = inr s
either_part (y ∷ xs) ys x (zero, here) = inl (zero, here)
either_part (y ∷ xs) ys x (suc i, here) = elim (either_part xs ys x (i, here)) [ inl s ↦ inl (further y xs x s) | inr s ↦ inr s ]

-- what holds of all holds of each
pub of_each : {X : Type 0} (P : X → Type 0) (xs : List X) (x : X) → All P xs → Stands xs x → P x
of_each P [] x all (i, here) = absurd (cc here)
of_each P (y ∷ xs) x all (zero, here) = let same : y ≡ x = cc here in subst P same (All-head P y xs all)
of_each P (y ∷ xs) x all (suc i, here) = of_each P xs x (All-tail P y xs all) (i, here)

-- and the other way round
pub all_of : {X : Type 0} (P : X → Type 0) (xs : List X) → ((x : X) → Stands xs x → P x) → All P xs
all_of P [] each = All-nil P
all_of P (x ∷ xs) each = All-cons P x xs (each x (at_first x xs)) (all_of P xs (λ y s. each y (further x xs y s)))

pub all_joined : {X : Type 0} (P : X → Type 0) (xss : List (List X)) → All (All P) xss → All P (flat_map (λ xs. xs) xss)
all_joined P [] all = All-nil P
all_joined P (xs ∷ xss) all =
    all_of P (xs ++ flat_map (λ ys. ys) xss)
    (λ x s. elim (either_part xs (flat_map (λ ys. ys) xss) x s) [
      | inl first ↦ of_each P xs x (All-head (All P) xs xss all) first
      | inr later ↦ of_each P (flat_map (λ ys. ys) xss) x (all_joined P xss (All-tail (All P) xs xss all)) later
    ])

pub found_stands : {X : Type 0} (p : X → Bool) (xs : List X) (x : X) → find p xs ≡ Some x → Stands xs x
found_stands p [] x e = absurd (cc e)
found_stands p (y ∷ xs) x e = by (p y) (found_stands p xs x) e
  where
    by : (b : Bool) → (find p xs ≡ Some x → Stands xs x) → cond b (Some y) (find p xs) ≡ Some x → Stands (y ∷ xs) x
    by true rest h = (zero, h)
    by false rest h = further y xs x (rest h)

-- each result of a map that gives some stands where the map has it
pub mapped_stands : {X Y : Type 0} (h : X → Option Y) (ys : List Y) → ((x : X) (y : Y) → h x ≡ Some y → Stands ys y) → (xs : List X) (y : Y) → Stands (filter_map h xs) y → Stands ys y
mapped_stands h ys each [] y (i, here) = absurd (cc here)
mapped_stands {X} {Y} h ys each (x ∷ xs) y s = by (h x) refl (mapped_stands h ys each xs y) s
  where
    by : (o : Option Y) → h x ≡ o → (Stands (filter_map h xs) y → Stands ys y) → Stands (cons_option o (filter_map h xs)) y → Stands ys y
    by None is rest here = rest here
    by (Some z) is rest here = elim (first_or_later z (filter_map h xs) y here) [
      | inl same ↦ subst (λ (w : Y). Stands ys w) same (each x z is)
      | inr later ↦ rest later
    ]

-- ---- two lists

pub zip_append : {A B : Type 0} (R : A → B → Type 0) (xs : List A) (ys : List B) (us : List A) (vs : List B) → AllZip R xs ys → AllZip R us vs → AllZip R (xs ++ us) (ys ++ vs)
zip_append R [] [] us vs z w = w
zip_append R [] (y ∷ ys) us vs z w = absurd z
zip_append R (x ∷ xs) [] us vs z w = absurd z
zip_append R (x ∷ xs) (y ∷ ys) us vs z w = (z.0, zip_append R xs ys us vs z.1 w)

pub zip_map : {A B : Type 0} (R S : A → B → Type 0) (xs : List A) (ys : List B) → ((x : A) (y : B) → Stands xs x → R x y → S x y) → AllZip R xs ys → AllZip S xs ys
zip_map R S [] [] f z = tt
zip_map R S [] (y ∷ ys) f z = absurd z
zip_map R S (x ∷ xs) [] f z = absurd z
zip_map R S (x ∷ xs) (y ∷ ys) f z = (f x y (at_first x xs) z.0, zip_map R S xs ys (λ a b s. f a b (further x xs a s)) z.1)

-- what stands in the second list came from the first
pub zip_back : {A B : Type 0} (R : A → B → Type 0) (xs : List A) (ys : List B) (y : B) → AllZip R xs ys → Stands ys y → (x : A) × Stands xs x × R x y
zip_back R xs [] y z (i, here) = absurd (cc here)
zip_back R [] (w ∷ ys) y z s = absurd z
zip_back {A} {B} R (x ∷ xs) (w ∷ ys) y z (zero, here) = let same : w ≡ y = cc here in (x, at_first x xs, subst (λ (v : B). R x v) same z.0)
zip_back R (x ∷ xs) (w ∷ ys) y z (suc i, here) =
    let rest = zip_back R xs ys y z.1 (i, here) in
    (rest.0, further x xs rest.0 rest.1, rest.2)

-- ---- mapped and filtered

pub mapped_from : {X Y : Type 0} (f : X → Y) (xs : List X) (y : Y) → Stands (map f xs) y → (x : X) × Stands xs x × (y ≡ f x)
mapped_from f [] y (i, here) = absurd (cc here)
mapped_from f (x ∷ xs) y (zero, here) = let same : f x ≡ y = cc here in (x, at_first x xs, sym same)
mapped_from f (x ∷ xs) y (suc i, here) = let rest = mapped_from f xs y (i, here) in (rest.0, further x xs rest.0 rest.1, rest.2)

pub image_stands : {X Y : Type 0} (f : X → Y) (xs : List X) (x : X) → Stands xs x → Stands (map f xs) (f x)
image_stands f [] x (i, here) = absurd (cc here)
image_stands f (y ∷ xs) x (zero, here) = let same : y ≡ x = cc here in (0, ap (λ z. Some (f z)) same)
image_stands f (y ∷ xs) x (suc i, here) = further (f y) (map f xs) (f x) (image_stands f xs x (i, here))

pub filtered_from : {X : Type 0} (p : X → Bool) (xs : List X) (x : X) → Stands (filter p xs) x → Stands xs x
filtered_from p [] x (i, here) = absurd (cc here)
filtered_from {X} p (y ∷ xs) x s = by (p y) (filtered_from p xs x) s
  where
    by : (b : Bool) → (Stands (filter p xs) x → Stands xs x) → Stands (cond b (y ∷ filter p xs) (filter p xs)) x → Stands (y ∷ xs) x
    by true rest h = elim (first_or_later y (filter p xs) x h) [ inl same ↦ subst (λ (z : X). Stands (y ∷ xs) z) same (at_first y xs) | inr later ↦ further y xs x (rest later) ]
    by false rest h = further y xs x (rest h)

-- ---- as std says it

pub contained : {X : Type 0} (xs : List X) (x : X) → Stands xs x → Contains xs x
contained xs x (i, here) = (i, slice_get_within xs i x here, get_or_from_slice_get xs i x x here)

pub standing : {X : Type 0} (xs : List X) (x : X) → Contains xs x → Stands xs x
standing xs x (i, below, is) = (i, slice_get-get_or xs i x below ∙ ap Some is)

-- ---- one more

-- what stands at a place where one is added
push_at : {X : Type 0} (xs : List X) (x : X) (k : ℕ) (y : X) → slice_get (xs ++ x ∷ []) k ≡ Some y → (slice_get xs k ≡ Some y) ⊎ ((k ≡ length xs) × (x ≡ y))
push_at [] x zero y here = inr (refl, cc here)
push_at [] x (suc k) y here = absurd (cc here)
push_at (z ∷ xs) x zero y here = inl here
push_at (z ∷ xs) x (suc k) y here = elim (push_at xs x k y here) [ inl there ↦ inl there | inr last ↦ inr (ap suc last.0, last.1) ]

-- what holds of each place holds of one more
pub each_more : {X : Type 0} (P : ℕ → X → Type 0) (xs after : List X) (x : X) (n : ℕ) → length xs ≡ n → ((k : ℕ) (y : X) → slice_get xs k ≡ Some y → P k y) → P n x → after ≡ xs ++ x ∷ []
    → (length after ≡ n + 1) × ((k : ℕ) (y : X) → slice_get after k ≡ Some y → P k y)
each_more {X} P xs after x n count each one pushed = (
  ap length pushed ∙ length_push xs x ∙ ap (λ (m : ℕ). m + 1) count,
  λ k y here. elim (push_at xs x k y (ap (λ (l : List X). slice_get l k) (sym pushed) ∙ here)) [
    | inl there ↦ each k y there
    | inr last ↦ subst (P k) last.1 (subst (λ (m : ℕ). P m x) (sym (last.0 ∙ count)) one)
  ],
)
