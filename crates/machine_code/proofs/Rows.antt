-- Lists with a row for each item of another one.
use Rattle.std.proofs.Common.{◌≡◌, ℕ, ◌+◌, ◌<◌, List, [], ◌∷◌, ◌++◌, drop, length, get_or, sym, ◌∙◌, ap, append_assoc}
use Rattle.std.proofs.lemmas.List.{drop_more}

pub row_more : {X Y : Type 0} (row : X → Y) (rows : List X → List Y) → ((x : X) (xs : List X) → rows (x ∷ xs) ≡ row x ∷ rows xs) → (xs : List X) (i : ℕ) (d : X) (all more : List Y) → i < length xs → more ≡ all ++ row (get_or xs i d) ∷ []
    → more ++ rows (drop (i + 1) xs) ≡ all ++ rows (drop i xs)
row_more row rows parts xs i d all more less pushed =
    ap (λ l. l ++ rows (drop (i + 1) xs)) pushed
    ∙ append_assoc all (row (get_or xs i d) ∷ []) (rows (drop (i + 1) xs))
    ∙ ap (λ l. all ++ l) (sym (ap rows (drop_more xs i d less) ∙ parts (get_or xs i d) (drop (i + 1) xs)))
