-- What lists hold, and how often.
use Rattle.std.proofs.Common.{◌≡◌, ◌∙◌, ◌⊎◌, inl, inr, ℕ, ◌+◌, ◌<◌, ◌≤◌, Bool, true, cond, nat_eq, List, [], ◌∷◌, ◌++◌, length, refl, sym, ap, subst, arith, get_or, take}
use Rattle.std.proofs.lemmas.Bool.{eq-eqb}
use Rattle.std.proofs.lemmas.List.Elements.{Contains-append_cases, Contains-append_left, Contains-append_right, Contains-push, Contains-push_cases}
use Rattle.std.proofs.lemmas.List.{append-nil, take_more}
use Rattle.std.proofs.lemmas.List.Concat.{flat_map-append}
use Rattle.std.proofs.lemmas.List.Sums.{get_or-le-sum_by}
use Rattle.std.specs.List.{Contains, flat_map}
use Rattle.thin_link.specs.Walking.{copies}

pub nothing : {X : Type 0} (x : X) → Contains [] x → ⊥
nothing x h = let k : h.0 < 0 = h.1 in absurd (omega (arith, k))

pub alone : {X : Type 0} (x y : X) → Contains (x ∷ []) y → x ≡ y
alone x y h = elim (Contains-push_cases [] x y h) [ inl e ↦ absurd (nothing y e) | inr e ↦ e ]

pub first : {X : Type 0} (x : X) (xs : List X) → Contains (x ∷ xs) x
first x xs = Contains-append_left (x ∷ []) xs x (Contains-push [] x)

pub later : {X : Type 0} (x y : X) (xs : List X) → Contains xs y → Contains (x ∷ xs) y
later x y xs h = Contains-append_right (x ∷ []) xs y h

pub first_or_later : {X : Type 0} (x y : X) (xs : List X) → Contains (x ∷ xs) y → (x ≡ y) ⊎ Contains xs y
first_or_later x y xs h = elim (Contains-append_cases (x ∷ []) xs y h) [ inl k ↦ inl (alone x y k) | inr k ↦ inr k ]

-- ---- lists of lists that are joined

pub joined_from : {X Y : Type 0} (f : X → List Y) (xs : List X) (y : Y) → Contains (flat_map f xs) y → (x : X) × Contains xs x × Contains (f x) y
joined_from f [] y h = absurd (nothing y h)
joined_from {X} {Y} f (x ∷ xs) y h = by (Contains-append_cases (f x) (flat_map f xs) y h) (λ k. joined_from f xs y k)
  where
    by : Contains (f x) y ⊎ Contains (flat_map f xs) y → (Contains (flat_map f xs) y → (z : X) × Contains xs z × Contains (f z) y) → (z : X) × Contains (x ∷ xs) z × Contains (f z) y
    by (inl k) rest = (x, first x xs, k)
    by (inr k) rest = let r = rest k in (r.0, later x r.0 xs r.1, r.2)

pub in_joined : {X Y : Type 0} (f : X → List Y) (xs : List X) (x : X) (y : Y) → Contains xs x → Contains (f x) y → Contains (flat_map f xs) y
in_joined f [] x y h k = absurd (nothing x h)
in_joined {X} {Y} f (a ∷ xs) x y h k = by (first_or_later a x xs h) (λ l. in_joined f xs x y l k)
  where
    by : (a ≡ x) ⊎ Contains xs x → (Contains xs x → Contains (flat_map f xs) y) → Contains (flat_map f (a ∷ xs)) y
    by (inl e) rest = Contains-append_left (f a) (flat_map f xs) y (subst (λ (z : X). Contains (f z) y) (sym e) k)
    by (inr l) rest = Contains-append_right (f a) (flat_map f xs) y (rest l)

-- ---- copies

pub one_copy : (n : ℕ) → nat_eq n n ≡ true
one_copy n = eq-eqb n n refl

pub stands : (n : ℕ) (xs : List ℕ) → Contains xs n → 1 ≤ copies n xs
stands n xs h =
    let least : cond (nat_eq n (get_or xs h.0 n)) 1 0 ≤ copies n xs = get_or-le-sum_by (λ x. cond (nat_eq n x) 1 0) xs h.0 n h.1 in
    let one : ◌≡◌ {A = ℕ} (cond (nat_eq n (get_or xs h.0 n)) 1 0) 1 = ap (λ (x : ℕ). cond (nat_eq n x) 1 0) h.2 ∙ ap (λ (b : Bool). cond b 1 0) (one_copy n) in
    omega (arith, least, one)

-- one element further
pub joined_more : {X Y : Type 0} (f : X → List Y) (xs : List X) (i : ℕ) (d : X) → i < length xs → d ≡ get_or xs i d → flat_map f (take i xs) ++ f d ≡ flat_map f (take (i + 1) xs)
joined_more {X} {Y} f xs i d h is =
    ap (λ (x : X). flat_map f (take i xs) ++ f x) is
    ∙ sym (ap (flat_map f) (take_more xs i d h) ∙ flat_map-append f (take i xs) (get_or xs i d ∷ []) ∙ ap (λ (ys : List Y). flat_map f (take i xs) ++ ys) (append-nil (f (get_or xs i d))))
