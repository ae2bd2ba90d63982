-- Elements of lists: of two lists, changed, chosen, and of lists of lists.
use Rattle.std.proofs.Common.{◌≡◌, ℕ, zero, suc, ◌+◌, ◌⊎◌, inl, inr, List, [], ◌∷◌, ◌++◌, Option, Some, None, map, option_map, length, refl, sym, ◌∙◌, ap, subst, arith, append_assoc, append-nil, drop, get_or, ◌<◌, ◌≤◌, ◌-◌}
use Rattle.std.specs.Prelude.{slice_get, filter_map, flat_map}
use Rattle.std.specs.List.{cons_option}
use Rattle.std.proofs.lemmas.List.{drop_more}
use Rattle.std.proofs.lemmas.Option.{slice_get-map}

-- ---- at a place

pub at_front : {X : Type 0} (xs ys : List X) (i : ℕ) (x : X) → slice_get xs i ≡ Some x → slice_get (xs ++ ys) i ≡ Some x
at_front [] ys i x e = absurd cc
at_front (y ∷ xs) ys zero x e = e
at_front (y ∷ xs) ys (suc i) x e = at_front xs ys i x e

pub at_back : {X : Type 0} (xs ys : List X) (i : ℕ) → slice_get (xs ++ ys) (length xs + i) ≡ slice_get ys i
at_back {X} [] ys i = let e : length {A = X} [] + i ≡ i = omega arith in ap (slice_get ys) e
at_back {X} (x ∷ xs) ys i = let e : length (x ∷ xs) + i ≡ suc (length xs + i) = omega arith in ap (slice_get (x ∷ (xs ++ ys))) e ∙ at_back xs ys i

-- an element of two lists is one of the first, or of the second at what is left
abbrev pub Apart : {X : Type 0} → List X → List X → ℕ → X → Type 0
Apart {X} xs ys i x = (slice_get xs i ≡ Some x) ⊎ ((k : ℕ) × (i ≡ length xs + k) × (slice_get ys k ≡ Some x))

pub apart_at : {X : Type 0} (xs ys : List X) (i : ℕ) (x : X) → slice_get (xs ++ ys) i ≡ Some x → Apart xs ys i x
apart_at {X} [] ys i x e = inr (i, omega arith, e)
apart_at {X} (y ∷ xs) ys zero x e = inl e
apart_at {X} (y ∷ xs) ys (suc i) x e = by (apart_at xs ys i x e)
  where
    by : Apart xs ys i x → Apart (y ∷ xs) ys (suc i) x
    by (inl h) = inl h
    by (inr (k, is, h)) = inr (k, omega (arith, is), h)

-- an element of a list of changed ones is a changed one
abbrev pub Changed : {X Y : Type 0} → (X → Y) → List X → ℕ → Y → Type 0
Changed {X} f xs i y = (x : X) × (slice_get xs i ≡ Some x) × (f x ≡ y)

of_option : {X Y : Type 0} (f : X → Y) (o : Option X) (y : Y) → option_map f o ≡ Some y → (x : X) × (o ≡ Some x) × (f x ≡ y)
of_option f None y e = absurd cc
of_option f (Some x) y e = (x, refl, cc e)

pub changed : {X Y : Type 0} (f : X → Y) (xs : List X) (i : ℕ) (y : Y) → slice_get (map f xs) i ≡ Some y → Changed f xs i y
changed f xs i y e = of_option f (slice_get xs i) y (sym (slice_get-map f xs i) ∙ e)

pub at_changed : {X Y : Type 0} (f : X → Y) (xs : List X) (i : ℕ) (x : X) → slice_get xs i ≡ Some x → slice_get (map f xs) i ≡ Some (f x)
at_changed f xs i x e = slice_get-map f xs i ∙ ap (option_map f) e

-- ---- at any place

abbrev pub In : {X : Type 0} → X → List X → Type 0
In {X} x xs = (i : ℕ) × (slice_get xs i ≡ Some x)

pub in_front : {X : Type 0} (x : X) (xs ys : List X) → In x xs → In x (xs ++ ys)
in_front x xs ys (i, e) = (i, at_front xs ys i x e)

pub in_back : {X : Type 0} (x : X) (xs ys : List X) → In x ys → In x (xs ++ ys)
in_back x xs ys (i, e) = (length xs + i, at_back xs ys i ∙ e)

pub in_either : {X : Type 0} (x : X) (xs ys : List X) → In x (xs ++ ys) → In x xs ⊎ In x ys
in_either x xs ys (i, e) = by (apart_at xs ys i x e)
  where
    by : Apart xs ys i x → In x xs ⊎ In x ys
    by (inl h) = inl (i, h)
    by (inr (k, is, h)) = inr (k, h)

pub in_map : {X Y : Type 0} (f : X → Y) (xs : List X) (y : Y) → In y (map f xs) → (x : X) × In x xs × (f x ≡ y)
in_map {X} {Y} f xs y (i, e) = by (changed f xs i y e)
  where
    by : Changed f xs i y → (x : X) × In x xs × (f x ≡ y)
    by (x, at, is) = (x, (i, at), is)

pub in_mapped : {X Y : Type 0} (f : X → Y) (x : X) (xs : List X) → In x xs → In (f x) (map f xs)
in_mapped f x xs (i, e) = (i, at_changed f xs i x e)

abbrev Chosen : {X Y : Type 0} → (X → Option Y) → List X → Y → Type 0
Chosen {X} h xs y = (x : X) × In x xs × (h x ≡ Some y)

pub in_chosen : {X Y : Type 0} (h : X → Option Y) (xs : List X) (y : Y) → In y (filter_map h xs) → (x : X) × In x xs × (h x ≡ Some y)
in_chosen {X} {Y} h [] y (i, e) = absurd cc
in_chosen {X} {Y} h (x ∷ xs) y (i, e) = by (h x) refl i e (in_chosen h xs y)
  where
    further : Chosen h xs y → Chosen h (x ∷ xs) y
    further (z, (k, at), is) = (z, (suc k, at), is)

    by : (o : Option Y) → h x ≡ o → (i : ℕ) → slice_get (cons_option o (filter_map h xs)) i ≡ Some y → (In y (filter_map h xs) → Chosen h xs y) → Chosen h (x ∷ xs) y
    by None is i e more = further (more (i, e))
    by (Some w) is zero e more = (x, (0, refl), is ∙ e)
    by (Some w) is (suc i) e more = further (more (i, e))

pub chosen_in : {X Y : Type 0} (h : X → Option Y) (x : X) (xs : List X) (y : Y) → In x xs → h x ≡ Some y → In y (filter_map h xs)
chosen_in {X} {Y} h x [] y (i, e) is = absurd cc
chosen_in {X} {Y} h x (z ∷ xs) y (zero, e) is = let same : z ≡ x = cc e in by (h z) (ap h same ∙ is)
  where
    by : (o : Option Y) → o ≡ Some y → In y (cons_option o (filter_map h xs))
    by None e = absurd cc
    by (Some w) e = (0, e)
chosen_in {X} {Y} h x (z ∷ xs) y (suc i, e) is = by (h z) (chosen_in h x xs y (i, e) is)
  where
    by : (o : Option Y) → In y (filter_map h xs) → In y (cons_option o (filter_map h xs))
    by None a = a
    by (Some w) (k, a) = (suc k, a)

pub in_flat : {X Y : Type 0} (h : X → List Y) (xs : List X) (y : Y) → In y (flat_map h xs) → (x : X) × In x xs × In y (h x)
in_flat {X} {Y} h [] y (i, e) = absurd cc
in_flat {X} {Y} h (x ∷ xs) y there = by (in_either y (h x) (flat_map h xs) there) (in_flat h xs y)
  where
    further : (z : X) × In z xs × In y (h z) → (z : X) × In z (x ∷ xs) × In y (h z)
    further (z, (k, at), is) = (z, (suc k, at), is)

    by : In y (h x) ⊎ In y (flat_map h xs) → (In y (flat_map h xs) → (z : X) × In z xs × In y (h z)) → (z : X) × In z (x ∷ xs) × In y (h z)
    by (inl a) more = (x, (0, refl), a)
    by (inr a) more = further (more a)

pub flat_in : {X Y : Type 0} (h : X → List Y) (x : X) (xs : List X) (y : Y) → In x xs → In y (h x) → In y (flat_map h xs)
flat_in {X} {Y} h x [] y (i, e) there = absurd cc
flat_in {X} {Y} h x (z ∷ xs) y (zero, e) there =
    let same : x ≡ z = sym (cc e) in
    in_front y (h z) (flat_map h xs) (subst (λ (w : X). In y (h w)) same there)
flat_in {X} {Y} h x (z ∷ xs) y (suc i, e) there = in_back y (h z) (flat_map h xs) (flat_in h x xs y (i, e) there)

-- ---- rows that are made of elements, one after another

-- what is left begins with the element that is read
pub read_here : {X : Type 0} (xs : List X) (i : ℕ) (x : X) → i < length xs → x ≡ get_or xs i x → drop i xs ≡ x ∷ drop (i + 1) xs
read_here xs i x less is = drop_more xs i x less ∙ ap (λ y. y ∷ drop (i + 1) xs) (sym is)

pub read_before : {X : Type 0} (xs : List X) (place : ℕ) (d : X) → 0 < place → place ≤ length xs → drop (place - 1) xs ≡ get_or xs (place - 1) d ∷ drop place xs
read_before xs place d some most =
    let behind : place - 1 + 1 ≡ place = omega (arith, some) in
    drop_more xs (place - 1) d (omega (arith, some, most)) ∙ ap (λ (k : ℕ). get_or xs (place - 1) d ∷ drop k xs) behind

pub next_row : {X Y : Type 0} (f : X → Y) (xs : List X) (i : ℕ) (x : X) (rows more : List Y) (y : Y) → i < length xs → x ≡ get_or xs i x → y ≡ f x → more ≡ rows ++ y ∷ []
    → more ++ map f (drop (i + 1) xs) ≡ rows ++ map f (drop i xs)
next_row f xs i x rows more y less is made pushed =
    ap (λ l. l ++ map f (drop (i + 1) xs)) pushed
    ∙ append_assoc rows (y ∷ []) (map f (drop (i + 1) xs))
    ∙ ap (λ z. rows ++ z ∷ map f (drop (i + 1) xs)) made
    ∙ ap (λ l. rows ++ map f l) (sym (read_here xs i x less is))

pub next_copy : {X : Type 0} (xs : List X) (i : ℕ) (x : X) (rows more : List X) (y : X) → i < length xs → x ≡ get_or xs i x → y ≡ x → more ≡ rows ++ y ∷ []
    → more ++ drop (i + 1) xs ≡ rows ++ drop i xs
next_copy xs i x rows more y less is made pushed =
    ap (λ l. l ++ drop (i + 1) xs) pushed
    ∙ append_assoc rows (y ∷ []) (drop (i + 1) xs)
    ∙ ap (λ z. rows ++ z ∷ drop (i + 1) xs) made
    ∙ ap (λ l. rows ++ l) (sym (read_here xs i x less is))

pub none_left : {X : Type 0} (rows rest all : List X) → rest ≡ [] → rows ++ rest ≡ all → rows ≡ all
none_left rows rest all none is = sym (append-nil rows) ∙ ap (λ l. rows ++ l) (sym none) ∙ is
