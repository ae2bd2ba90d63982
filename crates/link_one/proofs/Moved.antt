-- Lists in which elements that tie stand in one order: each is a reordering of the other, and so are those of their elements that pass a test.
use Rattle.std.proofs.Common.{◌≡◌, ◌∙◌, ◌&&◌, Bool, true, false, not, cond, List, [], ◌∷◌, ◌++◌, refl, sym, ap, subst}
use Rattle.std.proofs.lemmas.Bool.{and_parts, false≢true}
use Rattle.std.proofs.lemmas.List.Elements.{filter-append, filter_agree}
use Rattle.std.proofs.lemmas.List.Sorted.{IsPermutation-cons, IsPermutation-middle, IsPermutation-refl, IsPermutation-trans}
use Rattle.std.specs.Cmp.{IsStrictWeakOrder}
use Rattle.std.specs.List.{filter}
use Rattle.std.specs.List.Sorted.{IsPermutation, IsStableBy, ties}

pub same_test : (a b : Bool) → (a ≡ true → b ≡ true) → (b ≡ true → a ≡ true) → a ≡ b
same_test true b to back = sym (to refl)
same_test false true to back = back refl
same_test false false to back = refl

not_true : (b : Bool) → not b ≡ true → b ≡ false
not_true true e = absurd (false≢true e)
not_true false e = refl

pub filter_on : {X : Type 0} (p : X → Bool) (x : X) (xs : List X) → p x ≡ true → filter p (x ∷ xs) ≡ x ∷ filter p xs
filter_on p x xs e = ap (λ (b : Bool). cond b (x ∷ filter p xs) (filter p xs)) e

pub filter_off : {X : Type 0} (p : X → Bool) (x : X) (xs : List X) → p x ≡ false → filter p (x ∷ xs) ≡ filter p xs
filter_off p x xs e = ap (λ (b : Bool). cond b (x ∷ filter p xs) (filter p xs)) e

-- two tests in either order
pub filters_commute : {X : Type 0} (p q : X → Bool) (xs : List X) → filter p (filter q xs) ≡ filter q (filter p xs)
filters_commute p q [] = refl
filters_commute {X} p q (x ∷ xs) = by (p x) refl (q x) refl (filters_commute p q xs)
  where
    by : (b : Bool) → p x ≡ b → (c : Bool) → q x ≡ c → filter p (filter q xs) ≡ filter q (filter p xs) → filter p (cond c (x ∷ filter q xs) (filter q xs)) ≡ filter q (cond b (x ∷ filter p xs) (filter p xs))
    by true e true f rest = filter_on p x (filter q xs) e ∙ ap (λ (l : List X). x ∷ l) rest ∙ sym (filter_on q x (filter p xs) f)
    by true e false f rest = rest ∙ sym (filter_off q x (filter p xs) f)
    by false e true f rest = filter_off p x (filter q xs) e ∙ rest
    by false e false f rest = rest

module _ {X : Type 0} (lt : X → X → Bool) (order : IsStrictWeakOrder lt) where
  irreflexive : (x : X) → lt x x ≡ false
  irreflexive x = by (lt x x) refl
    where
      by : (b : Bool) → lt x x ≡ b → lt x x ≡ false
      by true h = order.one_way x x h
      by false h = h

  tied : (x y : X) → lt x y ≡ false → lt y x ≡ false → ties lt x y ≡ true
  tied x y h g = ap (λ (b : Bool). not b && not (lt y x)) h ∙ ap not g

  pub tied_itself : (x : X) → ties lt x x ≡ true
  tied_itself x = tied x x (irreflexive x) (irreflexive x)

  apart : (x y : X) → ties lt x y ≡ true → (lt x y ≡ false) × (lt y x ≡ false)
  apart x y tie = let both = and_parts (not (lt x y)) (not (lt y x)) tie in (not_true (lt x y) both.0, not_true (lt y x) both.1)

  further : (x y z : X) → ties lt x y ≡ true → ties lt x z ≡ true → ties lt y z ≡ true
  further x y z tie other =
      let a = apart x y tie in
      let b = apart x z other in
      tied y z (order.chain y x z a.1 b.0) (order.chain z x y b.1 a.0)

  -- elements that tie tie with the same ones
  tie_alike : (x y : X) → ties lt x y ≡ true → (z : X) → ties lt x z ≡ ties lt y z
  tie_alike x y tie z =
      let a = apart x y tie in
      same_test (ties lt x z) (ties lt y z) (further x y z tie) (further y x z (tied y x a.1 a.0))

  -- the list up to the first element that ties with y, which is y itself
  first_tie : (y : X) (xs rest : List X) → filter (ties lt y) xs ≡ y ∷ rest → (front : List X) × (back : List X) × (xs ≡ front ++ y ∷ back) × (filter (ties lt y) front ≡ [])
  first_tie y [] rest e = absurd (cc e)
  first_tie y (z ∷ zs) rest e = by (ties lt y z) refl e (first_tie y zs rest)
    where
      by : (b : Bool) → ties lt y z ≡ b → cond b (z ∷ filter (ties lt y) zs) (filter (ties lt y) zs) ≡ y ∷ rest
          → (filter (ties lt y) zs ≡ y ∷ rest → (front : List X) × (back : List X) × (zs ≡ front ++ y ∷ back) × (filter (ties lt y) front ≡ []))
          → (front : List X) × (back : List X) × (z ∷ zs ≡ front ++ y ∷ back) × (filter (ties lt y) front ≡ [])
      by true is h more = let same : z ≡ y = cc h in ([], zs, ap (λ (w : X). w ∷ zs) same, refl)
      by false is h more =
          let found = more h in
          (z ∷ found.0, found.1, ap (λ (l : List X). z ∷ l) found.2, filter_off (ties lt y) z found.0 is ∙ found.3)

  tail_same : (x : X) (xs ys : List X) → x ∷ xs ≡ x ∷ ys → xs ≡ ys
  tail_same x xs ys e = cc e

  without : (y : X) (ys front back : List X) → filter (ties lt y) front ≡ [] → ((x : X) → filter (ties lt x) (y ∷ ys) ≡ filter (ties lt x) (front ++ y ∷ back)) → (x : X)
      → filter (ties lt x) ys ≡ filter (ties lt x) (front ++ back)
  without y ys front back none same x = by (ties lt x y) refl
    where
      by : (b : Bool) → ties lt x y ≡ b → filter (ties lt x) ys ≡ filter (ties lt x) (front ++ back)
      by true tie =
          let empty : filter (ties lt x) front ≡ [] = filter_agree (ties lt x) (ties lt y) (tie_alike x y tie) front ∙ none in
          tail_same y (filter (ties lt x) ys) (filter (ties lt x) back)
          (sym (filter_on (ties lt x) y ys tie) ∙ same x ∙ filter-append (ties lt x) front (y ∷ back)
          ∙ ap (λ (l : List X). l ++ filter (ties lt x) (y ∷ back)) empty ∙ filter_on (ties lt x) y back tie)
          ∙ ap (λ (l : List X). l ++ filter (ties lt x) back) (sym empty)
          ∙ sym (filter-append (ties lt x) front back)
      by false off =
          sym (filter_off (ties lt x) y ys off) ∙ same x ∙ filter-append (ties lt x) front (y ∷ back)
          ∙ ap (λ (l : List X). filter (ties lt x) front ++ l) (filter_off (ties lt x) y back off)
          ∙ sym (filter-append (ties lt x) front back)

  pub moved : (xs ys : List X) → IsStableBy lt xs ys → IsPermutation xs ys
  moved [] [] same = IsPermutation-refl []
  moved (x ∷ xs) [] same = let clash : [] ≡ x ∷ filter (ties lt x) xs = same x ∙ filter_on (ties lt x) x xs (tied_itself x) in absurd (cc clash)
  moved xs (y ∷ ys) same =
      let split = first_tie y xs (filter (ties lt y) ys) (sym (same y) ∙ filter_on (ties lt y) y ys (tied_itself y)) in
      let rest = moved (split.0 ++ split.1) ys
      (without y ys split.0 split.1 split.3 (λ x. same x ∙ ap (filter (ties lt x)) split.2)) in
      subst (λ (l : List X). IsPermutation l (y ∷ ys)) (sym split.2)
      (IsPermutation-trans _ _ _ (IsPermutation-middle split.0 y split.1) (IsPermutation-cons y _ _ rest))

  pub stable_filter : (p : X → Bool) (xs ys : List X) → IsStableBy lt xs ys → IsStableBy lt (filter p xs) (filter p ys)
  stable_filter p xs ys same x = filters_commute (ties lt x) p ys ∙ ap (filter p) (same x) ∙ filters_commute p (ties lt x) xs
