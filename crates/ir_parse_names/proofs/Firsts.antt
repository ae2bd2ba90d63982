-- A list taken apart behind its first item.
use Rattle.std.proofs.Common.{◌≡◌, ◌-◌, ◌≤◌, ◌<◌, List, [], ◌∷◌, length, drop, take, get_or, refl, sym, ap, arith}
use Rattle.std.proofs.lemmas.List.{take_all}

-- all of what stands behind the first
pub behind_first : {A : Type 0} (xs : List A) → take (length xs - 1) (drop 1 xs) ≡ drop 1 xs
behind_first [] = refl
behind_first (x ∷ xs) = take_all (length (x ∷ xs) - 1) xs (omega arith)

pub first_and_rest : {A : Type 0} (xs : List A) (d : A) → 1 ≤ length xs → xs ≡ get_or xs 0 d ∷ take (length xs - 1) (drop 1 xs)
first_and_rest [] d some = absurd (omega (arith, some))
first_and_rest (x ∷ xs) d some = ap (λ ys. x ∷ ys) (sym (behind_first (x ∷ xs)))

pub rest_shorter : {A : Type 0} (xs : List A) → 1 ≤ length xs → length (take (length xs - 1) (drop 1 xs)) < length xs
rest_shorter [] some = absurd (omega (arith, some))
rest_shorter (x ∷ xs) some = rw (behind_first (x ∷ xs)) (omega arith)
