-- One step of a loop over a list.
use Rattle.std.proofs.Common.{◌≡◌, ℕ, ◌+◌, ◌<◌, List, [], ◌∷◌, ◌++◌, length, get_or, drop, map, append_assoc, refl, sym, ◌∙◌, ap}
use Rattle.std.proofs.lemmas.List.{drop_more}

left : {X : Type 0} (xs : List X) (i : ℕ) (x : X) → i < length xs → x ≡ get_or xs i x → x ∷ drop (i + 1) xs ≡ drop i xs
left xs i x lt is = ap (λ y. y ∷ drop (i + 1) xs) is ∙ sym (drop_more xs i x lt)

-- what each gives is put behind the others
pub given_more : {X Y : Type 0} (gives : X → List Y) (all_given : List X → List Y) → ((x : X) (xs : List X) → all_given (x ∷ xs) ≡ gives x ++ all_given xs) → (xs : List X) (i : ℕ) (x : X) (ys more : List Y)
    → i < length xs → x ≡ get_or xs i x → more ≡ ys ++ gives x → more ++ all_given (drop (i + 1) xs) ≡ ys ++ all_given (drop i xs)
given_more gives all_given parts xs i x ys more lt x_is pushed =
    ap (λ l. l ++ all_given (drop (i + 1) xs)) pushed
    ∙ append_assoc ys (gives x) (all_given (drop (i + 1) xs))
    ∙ ap (λ l. ys ++ l) (sym (parts x (drop (i + 1) xs)) ∙ ap all_given (left xs i x lt x_is))

-- what is made of each is put behind the others
pub all_made : {X Y : Type 0} (f : X → Y) (xs : List X) (i : ℕ) (x : X) (y : Y) (old new : List Y) → i < length xs → x ≡ get_or xs i x → y ≡ f x → new ≡ old ++ y ∷ []
    → new ++ map f (drop (i + 1) xs) ≡ old ++ map f (drop i xs)
all_made {X = X} f xs i x y old new lt is made pushed = given_more (λ (z : X). f z ∷ []) (map f) (λ z zs. refl) xs i x old new lt is (pushed ∙ ap (λ z. old ++ z ∷ []) made)
