-- What is made of each item of a list, item by item.
use Rattle.std.proofs.Common.{◌≡◌, ◌∙◌, ◌+◌, ◌<◌, ◌++◌, ◌∷◌, [], ℕ, List, length, get_or, take, map, ap, sym}
use Rattle.std.proofs.lemmas.List.{map_more}

-- one item more
pub pushed : {X Y : Type 0} (of : X → Y) (xs : List X) (i : ℕ) (x : X) (y : Y) (old new : List Y) → i < length xs → x ≡ get_or xs i x → y ≡ of x → new ≡ old ++ y ∷ [] → old ≡ map of (take i xs) → new ≡ map of (take (i + 1) xs)
pushed of xs i x y old new low is value push so_far =
    push
    ∙ ap (λ ys. ys ++ y ∷ []) so_far
    ∙ ap (λ z. map of (take i xs) ++ z ∷ []) (value ∙ ap of is)
    ∙ sym (map_more of xs i x low)
