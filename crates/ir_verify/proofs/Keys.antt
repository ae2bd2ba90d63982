-- Elements of a list whose keys differ, or are met again.
use Rattle.std.proofs.Common.{◌≡◌, ℕ, zero, suc, ◌<◌, ◌+◌, Bool, true, false, ◌||◌, List, [], ◌∷◌, length, get_or, take, refl, sym, ap, subst, ◌∙◌, arith, inl, inr, ◌⊎◌}
use Rattle.std.specs.Prelude.{nat_eq, Some, slice_get}
use Rattle.std.specs.List.{list_any}
use Rattle.std.proofs.lemmas.Bool.{cases_eq}

or_cases : (a b : Bool) → (a || b) ≡ true → (a ≡ true) ⊎ (b ≡ true)
or_cases true b e = inl refl
or_cases false b e = inr e

or_left : (a b : Bool) → a ≡ true → (a || b) ≡ true
or_left a b e = rw e refl

or_right : (a b : Bool) → b ≡ true → (a || b) ≡ true
or_right true b e = refl
or_right false b e = e

pub got_is : {X : Type 0} (xs : List X) (i : ℕ) (x d : X) → slice_get xs i ≡ Some x → get_or xs i d ≡ x
got_is [] i x d e = absurd (cc e)
got_is (y ∷ xs) zero x d e = cc
got_is (y ∷ xs) (suc i) x d e = got_is xs i x d e

pub got_below : {X : Type 0} (xs : List X) (i : ℕ) (x : X) → slice_get xs i ≡ Some x → i < length xs
got_below [] i x e = absurd (cc e)
got_below (y ∷ xs) zero x e = omega arith
got_below (y ∷ xs) (suc i) x e = omega (arith, got_below xs i x e)

pub got_at : {X : Type 0} (xs : List X) (i : ℕ) (d : X) → i < length xs → slice_get xs i ≡ Some (get_or xs i d)
got_at [] i d l = absurd (omega arith)
got_at (y ∷ xs) zero d l = refl
got_at (y ∷ xs) (suc i) d l = got_at xs i d (omega arith)

module _ {X : Type 0} (key : X → ℕ) where
  -- whether an element has the key
  pub met : ℕ → List X → Bool
  met q xs = list_any (λ x. nat_eq q (key x)) xs

  -- an element in front of a place that has the key
  pub met_at : (q : ℕ) (xs : List X) (i : ℕ) → list_any (λ x. nat_eq q (key x)) (take i xs) ≡ true → (j : ℕ) × (c : X) × (j < i) × (slice_get xs j ≡ Some c) × (key c ≡ q)
  met_at q [] zero e = absurd (cc e)
  met_at q [] (suc i) e = absurd (cc e)
  met_at q (x ∷ xs) zero e = absurd (cc e)
  met_at q (x ∷ xs) (suc i) e =
      elim (or_cases (nat_eq q (key x)) (list_any (λ y. nat_eq q (key y)) (take i xs)) e) [
        | inl t ↦ (let same : key x ≡ q = grind arith in (0, x, omega arith, refl, same))
        | inr t ↦ (let w = met_at q xs i t in (suc w.0, w.1, omega (arith, w.2), w.3, w.4))
      ]

  pub met_of : (q : ℕ) (xs : List X) (i j : ℕ) (c : X) → j < i → slice_get xs j ≡ Some c → key c ≡ q → list_any (λ x. nat_eq q (key x)) (take i xs) ≡ true
  met_of q [] i j c l e k = absurd (cc e)
  met_of q (x ∷ xs) zero j c l e k = absurd (omega arith)
  met_of q (x ∷ xs) (suc i) zero c l e k =
      let same : x ≡ c = cc in
      let at : q ≡ key x = sym (ap key same ∙ k) in
      or_left (nat_eq q (key x)) (list_any (λ y. nat_eq q (key y)) (take i xs)) (grind arith)
  met_of q (x ∷ xs) (suc i) (suc j) c l e k =
      or_right (nat_eq q (key x)) (list_any (λ y. nat_eq q (key y)) (take i xs)) (met_of q xs i j c (omega arith) e k)

  -- no key is met before, so the elements of one key are one
  pub fresh_differ : (xs : List X) → ((i : ℕ) (x : X) → slice_get xs i ≡ Some x → list_any (λ y. nat_eq (key x) (key y)) (take i xs) ≡ false) → (i j : ℕ) (c d : X) → slice_get xs i ≡ Some c → slice_get xs j ≡ Some d → key c ≡ key d → i ≡ j
  fresh_differ xs fresh i j c d g h e =
      elim (by_order i j) [
        | inl l ↦ (absurd (let t = met_of (key d) xs j i c l g e in let f = fresh j d h in cc))
        | inr r ↦ elim r [ inl q ↦ q | inr l ↦ absurd (let t = met_of (key c) xs i j d l h (sym e) in let f = fresh i c g in cc) ]
      ]
    where
      by_order : (i j : ℕ) → (i < j) ⊎ ((i ≡ j) ⊎ (j < i))
      by_order zero zero = inr (inl refl)
      by_order zero (suc j) = inl (omega arith)
      by_order (suc i) zero = inr (inr (omega arith))
      by_order (suc i) (suc j) = elim (by_order i j) [ inl l ↦ inl (omega arith) | inr r ↦ elim r [ inl q ↦ inr (inl (ap suc q)) | inr l ↦ inr (inr (omega arith)) ] ]

  -- an element whose key was met before isn't the only one of its key
  pub met_again : (xs : List X) (i : ℕ) (d : X) → i < length xs → list_any (λ y. nat_eq (key (get_or xs i d)) (key y)) (take i xs) ≡ true → ((i j : ℕ) (c e : X) → slice_get xs i ≡ Some c → slice_get xs j ≡ Some e → key c ≡ key e → i ≡ j) → ⊥
  met_again xs i d l t only =
      let w = met_at (key (get_or xs i d)) xs i t in
      let same : w.0 ≡ i = only w.0 i w.1 (get_or xs i d) w.3 (got_at xs i d l) w.4 in
      omega (arith, w.2, same)

  -- one more element whose key wasn't met
  pub fresh_more : (xs : List X) (i : ℕ) (d : X) → ((k : ℕ) (x : X) → k < i → slice_get xs k ≡ Some x → list_any (λ y. nat_eq (key x) (key y)) (take k xs) ≡ false) → list_any (λ y. nat_eq (key (get_or xs i d)) (key y)) (take i xs) ≡ false → (k : ℕ) (x : X) → k < i + 1 → slice_get xs k ≡ Some x → list_any (λ y. nat_eq (key x) (key y)) (take k xs) ≡ false
  fresh_more xs i d before here k x l g =
      elim (cases_eq k i) [
        | inl q ↦ (let is : get_or xs i d ≡ x = subst (λ (j : ℕ). get_or xs j d ≡ x) q (got_is xs k x d g) in
            subst (λ (j : ℕ). list_any (λ y. nat_eq (key x) (key y)) (take j xs) ≡ false) (sym q) (subst (λ (z : X). list_any (λ y. nat_eq (key z) (key y)) (take i xs) ≡ false) is here))
        | inr n ↦ before k x (omega arith) g
      ]

pub got_read : {X : Type 0} (xs : List X) (i : ℕ) (x : X) → i < length xs → x ≡ get_or xs i x → slice_get xs i ≡ Some x
got_read xs i x l e = got_at xs i x l ∙ ap Some (sym e)
