-- A loop that makes one value of each.
use Rattle.std.proofs.Common.{◌≡◌, ℕ, List, [], ◌∷◌, ◌++◌, Result, Ok, Err, refl, sym, ap, ◌∙◌, append_assoc, suc, ◌+◌, ◌<◌, ◌≤◌, length, drop, get_or, add-one, append-nil, drop-cons}
use Rattle.std.proofs.lemmas.List.{drop_all}
use Rattle.ir_parse_names.specs.Resolving.{each, ◌>>=◌}

-- what is left from k on begins with the item at k
pub here : {A : Type 0} (xs : List A) (k : ℕ) (x : A) → k < length xs → x ≡ get_or xs k x → drop k xs ≡ x ∷ drop (k + 1) xs
here xs k x at is = drop-cons xs k x at ∙ ap (λ y. y ∷ drop (suc k) xs) (sym is) ∙ ap (λ n. x ∷ drop n xs) (sym (add-one k))

abbrev pub in_front : {B E : Type 0} → List B → Result (List B) E → Result (List B) E
in_front front r = r >>= λ ys. Ok (front ++ ys)

module _ {A B E : Type 0} (f : A → Result B E) where
  regroup : (front : List B) (y : B) (r : Result (List B) E) → in_front front (r >>= λ ys. Ok (y ∷ ys)) ≡ in_front (front ++ y ∷ []) r
  regroup front y (Ok ys) = ap (λ (z : List B). Ok z) (sym (append_assoc front (y ∷ []) ys))
  regroup front y (Err e) = refl

  -- one more is made
  pub makes : (front : List B) (x : A) (y : B) (xs : List A) → f x ≡ Ok y → in_front front (each f (x ∷ xs)) ≡ in_front (front ++ y ∷ []) (each f xs)
  makes front x y xs h = ap (λ (r : Result B E). in_front front (r >>= λ z. each f xs >>= λ zs. Ok (z ∷ zs))) h ∙ regroup front y (each f xs)

  -- and the list is one item shorter
  pub goes_on : (xs : List A) (k : ℕ) (front : List B) (x : A) (y : B) → k < length xs → x ≡ get_or xs k x → f x ≡ Ok y → in_front front (each f (drop k xs)) ≡ in_front (front ++ y ∷ []) (each f (drop (k + 1) xs))
  goes_on xs k front x y at is h = ap (λ more. in_front front (each f more)) (here xs k x at is) ∙ makes front x y (drop (k + 1) xs) h

  none_before : (r : Result (List B) E) → in_front [] r ≡ r
  none_before (Ok ys) = refl
  none_before (Err e) = refl

  -- before the first none is made
  pub none_made : (xs : List A) (front : List B) → front ≡ [] → in_front front (each f xs) ≡ each f xs
  none_made xs front e = ap (λ (ys : List B). in_front ys (each f xs)) e ∙ none_before (each f xs)

  -- behind the last all are
  pub all_made : (xs : List A) (k : ℕ) (front : List B) (total : Result (List B) E) → length xs ≤ k → in_front front (each f (drop k xs)) ≡ total → total ≡ Ok front
  all_made xs k front total le h = sym h ∙ ap (λ (ys : List A). in_front front (each f ys)) (drop_all k xs le) ∙ ap (λ (ys : List B). Ok ys) (append-nil front)

  -- where one isn't made, none are
  pub one_fails : (xs : List A) (k : ℕ) (front : List B) (x : A) (e : E) (total : Result (List B) E) → k < length xs → x ≡ get_or xs k x → f x ≡ Err e → in_front front (each f (drop k xs)) ≡ total → total ≡ Err e
  one_fails xs k front x e total at is h so_far =
      sym so_far ∙ ap (λ (ys : List A). in_front front (each f ys)) (here xs k x at is) ∙ ap (λ (r : Result B E). in_front front (r >>= λ y. each f (drop (k + 1) xs) >>= λ ys. Ok (y ∷ ys))) h
