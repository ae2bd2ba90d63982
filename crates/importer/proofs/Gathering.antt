-- What a loop gathers of a list, one item further.
use Rattle.std.proofs.Common.{◌≡◌, ◌∙◌, ◌<◌, ◌+◌, ℕ, List, ◌∷◌, [], ◌++◌, append_assoc, ap, sym, length, map, filter, slice_index_or, take}
use Rattle.std.specs.Prelude.{Bool, Option, filter_map}
use Rattle.std.proofs.lemmas.Grind.{take_at_read}
use Rattle.std.proofs.lemmas.List.{map-append}
use Rattle.std.proofs.lemmas.List.Elements.{filter-append, filter_map-append}

-- what is gathered of two lists is gathered of each
abbrev pub Joins : {X Y : Type 0} → (List X → List Y) → Type 0
Joins {X} F = (xs ys : List X) → F (xs ++ ys) ≡ (F xs ++ F ys)

pub gathered_more : {X Y : Type 0} (F : List X → List Y) → Joins F → (xs : List X) (i : ℕ) (x : X) (first old new : List Y) → i < length xs → x ≡ slice_index_or xs i x
    → old ≡ first ++ F (take i xs) → new ≡ old ++ F (x ∷ []) → new ≡ first ++ F (take (i + 1) xs)
gathered_more {X} {Y} F joins xs i x first old new lt is before pushed =
    pushed
    ∙ ap (λ (l : List Y). l ++ F (x ∷ [])) before
    ∙ append_assoc first (F (take i xs)) (F (x ∷ []))
    ∙ ap (λ (l : List Y). first ++ l) (sym (joins (take i xs) (x ∷ [])))
    ∙ ap (λ (y : X). first ++ F (take i xs ++ y ∷ [])) is
    ∙ ap (λ (l : List X). first ++ F l) (sym (take_at_read xs i x lt).1)

-- ---- of mapped lists

pub filter_mapped : {X Y : Type 0} (p : Y → Bool) (f : X → Y) → Joins (λ xs. filter p (map f xs))
filter_mapped p f xs ys = ap (filter p) (map-append f xs ys) ∙ filter-append p (map f xs) (map f ys)

pub found_mapped : {X Y Z : Type 0} (h : Y → Option Z) (f : X → Y) → Joins (λ xs. filter_map h (map f xs))
found_mapped h f xs ys = ap (filter_map h) (map-append f xs ys) ∙ filter_map-append h (map f xs) (map f ys)
