-- A work list and the lists that it is filled from grow shorter together.
use Rattle.std.proofs.Common.{◌≡◌, ℕ, ◌+◌, ◌<◌, List, [], ◌∷◌, ◌++◌, length, ap, ◌∙◌, arith, length-append}

pub shorter : (work rest next row : List ℕ) (old new : ℕ) (y : ℕ) → work ≡ rest ++ y ∷ [] → next ≡ rest ++ row → new + length row ≡ old → length next + new < length work + old
shorter work rest next row old new y work_is next_is fewer =
    let longer : length work ≡ length rest + 1 = ap length work_is ∙ length-append rest (y ∷ []) in
    let then : length next ≡ length rest + length row = ap length next_is ∙ length-append rest row in
    omega (arith, longer, then, fewer)
