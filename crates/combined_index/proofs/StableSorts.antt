-- A stable sort has one answer.
use Rattle.std.proofs.Common.{◌≡◌, ◌∙◌, ℕ, suc, ◌+◌, Bool, true, false, not, ◌&&◌, cond, List, [], ◌∷◌, refl, sym, ap, subst, arith, get_or}
use Rattle.std.proofs.lemmas.List.Elements.{All-contains, All-contains_itself, All-filter}
use Rattle.std.proofs.lemmas.List.Sorted.{sorted_far}
use Rattle.std.specs.Cmp.{IsStrictWeakOrder}
use Rattle.std.specs.List.{Contains, filter}
use Rattle.std.specs.List.Sorted.{IsSortedBy, ties}

module _ {X : Type 0} (lt : X → X → Bool) (order : IsStrictWeakOrder lt) where
  irreflexive : (x : X) → lt x x ≡ false
  irreflexive x = by (lt x x) refl
    where
      by : (b : Bool) → lt x x ≡ b → lt x x ≡ false
      by true h = order.one_way x x h
      by false h = h

  tied : (x y : X) → lt x y ≡ false → lt y x ≡ false → ties lt x y ≡ true
  tied x y h g = ap (λ (b : Bool). not b && not (lt y x)) h ∙ ap not g

  -- none is less than the first of a sorted list
  first_is_least : (z : X) (zs : List X) → IsSortedBy lt (z ∷ zs) → (y : X) → Contains (z ∷ zs) y → lt y z ≡ false
  first_is_least z zs up y (k, below, is) = subst (λ (w : X). lt w z ≡ false) is (sorted_far lt order (z ∷ zs) up 0 k y (omega arith) below)

  others_sorted : (z : X) (zs : List X) → IsSortedBy lt (z ∷ zs) → IsSortedBy lt zs
  others_sorted z zs up k d low high =
      let next : suc k + 1 ≡ suc (k + 1) = omega arith in
      subst (λ (n : ℕ). lt (get_or (z ∷ zs) n d) (get_or zs k d) ≡ false) next (up (suc k) d (omega arith) (omega (arith, high)))

  -- the first passes where it ties
  passes : (p : X → Bool) (y : X) (ys : List X) → p y ≡ true → filter p (y ∷ ys) ≡ y ∷ filter p ys
  passes p y ys h = ap (λ (b : Bool). cond b (y ∷ filter p ys) (filter p ys)) h

  -- what passes stands in the list
  passed : (p : X → Bool) (xs : List X) (y : X) → Contains (filter p xs) y → Contains xs y
  passed p xs y h = All-contains (Contains xs) (filter p xs) y (All-filter p (Contains xs) xs (All-contains_itself xs)) h

  -- the first of one list stands in the other
  stands : (y : X) (ys zs : List X) → filter (ties lt y) (y ∷ ys) ≡ filter (ties lt y) zs → Contains zs y
  stands y ys zs h =
      let front = passes (ties lt y) y ys (tied y y (irreflexive y) (irreflexive y)) in
      passed (ties lt y) zs y (subst (λ (ws : List X). Contains ws y) (sym front ∙ h) (0, omega arith, refl))

  fewer : (b : Bool) (x : X) (ys zs : List X) → cond b (x ∷ ys) ys ≡ cond b (x ∷ zs) zs → ys ≡ zs
  fewer true x ys zs h = cc
  fewer false x ys zs h = h

  pub same_sorted : (ys zs : List X) → IsSortedBy lt ys → IsSortedBy lt zs → ((x : X) → filter (ties lt x) ys ≡ filter (ties lt x) zs) → ys ≡ zs
  same_sorted [] [] up rise same = refl
  same_sorted [] (z ∷ zs) up rise same = let none = stands z zs [] (sym (same z)) in absurd (omega (arith, none.1))
  same_sorted (y ∷ ys) [] up rise same = let none = stands y ys [] (same y) in absurd (omega (arith, none.1))
  same_sorted (y ∷ ys) (z ∷ zs) up rise same =
      let low : lt y z ≡ false = first_is_least z zs rise y (stands y ys (z ∷ zs) (same y)) in
      let high : lt z y ≡ false = first_is_least y ys up z (stands z zs (y ∷ ys) (sym (same z))) in
      let left = passes (ties lt y) y ys (tied y y (irreflexive y) (irreflexive y)) in
      let right = passes (ties lt y) z zs (tied y z low high) in
      let both : y ∷ filter (ties lt y) ys ≡ z ∷ filter (ties lt y) zs = sym left ∙ same y ∙ right in
      let head : y ≡ z = cc in
      let tail : ys ≡ zs = same_sorted ys zs (others_sorted y ys up) (others_sorted z zs rise)
      (λ x. fewer (ties lt x y) y (filter (ties lt x) ys) (filter (ties lt x) zs) (same x ∙ ap (λ (w : X). filter (ties lt x) (w ∷ zs)) (sym head))) in
      cc
