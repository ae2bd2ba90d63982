-- What stands in a list, and in a list of lists.
use Rattle.std.proofs.Common.{◌≡◌, ◌⊎◌, inl, inr, ◌||◌, ◌<◌, Bool, true, false, cond, List, [], ◌∷◌, ◌++◌, map, filter, refl, sym, ◌∙◌, ap, subst, arith}
use Rattle.std.proofs.lemmas.Bool.{false≢true, or_cases, or_left, or_right}
use Rattle.std.proofs.lemmas.List.Elements.{All-contains, All-contains_itself, All-filter, Contains-append_cases, Contains-append_left, Contains-append_right, Contains-push, Contains-push_cases, filter_passes}
use Rattle.std.specs.List.{Contains, flat_map, list_any}

pub nothing : {X : Type 0} (x : X) → Contains {X = X} [] x → ⊥
nothing x h = let lt : h.0 < 0 = h.1 in absurd (omega (arith, lt))

pub alone : {X : Type 0} (z x : X) → Contains (z ∷ []) x → z ≡ x
alone z x h = elim (Contains-push_cases [] z x h) [ inl e ↦ absurd (nothing x e) | inr e ↦ e ]

pub first : {X : Type 0} (x : X) (xs : List X) → Contains (x ∷ xs) x
first x xs = Contains-append_left (x ∷ []) xs x (Contains-push [] x)

pub later : {X : Type 0} (x y : X) (xs : List X) → Contains xs y → Contains (x ∷ xs) y
later x y xs h = Contains-append_right (x ∷ []) xs y h

pub first_or_later : {X : Type 0} (x y : X) (xs : List X) → Contains (x ∷ xs) y → (x ≡ y) ⊎ Contains xs y
first_or_later x y xs h = elim (Contains-append_cases (x ∷ []) xs y h) [ inl e ↦ inl (alone x y e) | inr e ↦ inr e ]

-- ---- lists of lists

pub joined_from : {X Y : Type 0} (f : X → List Y) (xs : List X) (y : Y) → Contains (flat_map f xs) y → (x : X) × Contains xs x × Contains (f x) y
joined_from f [] y h = absurd (nothing y h)
joined_from {X} {Y} f (x ∷ xs) y h = by (Contains-append_cases (f x) (flat_map f xs) y h) (λ rest. joined_from f xs y rest)
  where
    by : Contains (f x) y ⊎ Contains (flat_map f xs) y → (Contains (flat_map f xs) y → (z : X) × Contains xs z × Contains (f z) y) → (z : X) × Contains (x ∷ xs) z × Contains (f z) y
    by (inl here) rest = (x, first x xs, here)
    by (inr more) rest = let found = rest more in (found.0, later x found.0 xs found.1, found.2)

pub in_joined : {X Y : Type 0} (f : X → List Y) (xs : List X) (x : X) (y : Y) → Contains xs x → Contains (f x) y → Contains (flat_map f xs) y
in_joined f [] x y h at = absurd (nothing x h)
in_joined {X} {Y} f (z ∷ xs) x y h at = by (first_or_later z x xs h) (λ rest. in_joined f xs x y rest at)
  where
    by : (z ≡ x) ⊎ Contains xs x → (Contains xs x → Contains (flat_map f xs) y) → Contains (f z ++ flat_map f xs) y
    by (inl same) rest = Contains-append_left (f z) (flat_map f xs) y (subst (λ (w : X). Contains (f w) y) (sym same) at)
    by (inr more) rest = Contains-append_right (f z) (flat_map f xs) y (rest more)

-- ---- images and what passes a test

pub in_map : {X Y : Type 0} (f : X → Y) (xs : List X) (x : X) → Contains xs x → Contains (map f xs) (f x)
in_map f [] x h = absurd (nothing x h)
in_map {X} {Y} f (z ∷ xs) x h = by (first_or_later z x xs h) (λ rest. in_map f xs x rest)
  where
    by : (z ≡ x) ⊎ Contains xs x → (Contains xs x → Contains (map f xs) (f x)) → Contains (f z ∷ map f xs) (f x)
    by (inl same) rest = subst (λ (w : X). Contains (f z ∷ map f xs) (f w)) same (first (f z) (map f xs))
    by (inr more) rest = later (f z) (f x) (map f xs) (rest more)

pub map_from : {X Y : Type 0} (f : X → Y) (xs : List X) (y : Y) → Contains (map f xs) y → (x : X) × Contains xs x × (f x ≡ y)
map_from f [] y h = absurd (nothing y h)
map_from {X} {Y} f (x ∷ xs) y h = by (first_or_later (f x) y (map f xs) h) (λ rest. map_from f xs y rest)
  where
    by : (f x ≡ y) ⊎ Contains (map f xs) y → (Contains (map f xs) y → (z : X) × Contains xs z × (f z ≡ y)) → (z : X) × Contains (x ∷ xs) z × (f z ≡ y)
    by (inl same) rest = (x, first x xs, same)
    by (inr more) rest = let found = rest more in (found.0, later x found.0 xs found.1, found.2)

pub in_filter : {X : Type 0} (p : X → Bool) (xs : List X) (x : X) → Contains xs x → p x ≡ true → Contains (filter p xs) x
in_filter p [] x h on = absurd (nothing x h)
in_filter {X} p (z ∷ xs) x h on = by (p z) refl (first_or_later z x xs h) (λ rest. in_filter p xs x rest on)
  where
    by : (b : Bool) → p z ≡ b → (z ≡ x) ⊎ Contains xs x → (Contains xs x → Contains (filter p xs) x) → Contains (cond b (z ∷ filter p xs) (filter p xs)) x
    by true e (inl same) rest = subst (Contains (z ∷ filter p xs)) same (first z (filter p xs))
    by true e (inr more) rest = later z x (filter p xs) (rest more)
    by false e (inl same) rest = absurd (false≢true (sym e ∙ ap p same ∙ on))
    by false e (inr more) rest = rest more

pub filter_from : {X : Type 0} (p : X → Bool) (xs : List X) (x : X) → Contains (filter p xs) x → Contains xs x × (p x ≡ true)
filter_from {X} p xs x h = (
  All-contains (Contains xs) (filter p xs) x (All-filter p (Contains xs) xs (All-contains_itself xs)) h,
  All-contains (λ (y : X). p y ≡ true) (filter p xs) x (filter_passes p xs) h,
)

-- ---- tests on lists

pub any_from : {X : Type 0} (p : X → Bool) (xs : List X) → list_any p xs ≡ true → (x : X) × Contains xs x × (p x ≡ true)
any_from p [] h = absurd (cc h)
any_from {X} p (x ∷ xs) h = by (or_cases (p x) (list_any p xs) h) (λ rest. any_from p xs rest)
  where
    by : (p x ≡ true) ⊎ (list_any p xs ≡ true) → (list_any p xs ≡ true → (y : X) × Contains xs y × (p y ≡ true)) → (y : X) × Contains (x ∷ xs) y × (p y ≡ true)
    by (inl here) rest = (x, first x xs, here)
    by (inr more) rest = let found = rest more in (found.0, later x found.0 xs found.1, found.2)

pub any_by : {X : Type 0} (p : X → Bool) (xs : List X) (x : X) → Contains xs x → p x ≡ true → list_any p xs ≡ true
any_by p [] x h on = absurd (nothing x h)
any_by {X} p (y ∷ ys) x h on = by (first_or_later y x ys h) (λ rest. any_by p ys x rest on)
  where
    by : (y ≡ x) ⊎ Contains ys x → (Contains ys x → list_any p ys ≡ true) → (p y || list_any p ys) ≡ true
    by (inl same) rest = or_left (p y) (list_any p ys) (ap p same ∙ on)
    by (inr more) rest = or_right (p y) (list_any p ys) (rest more)
