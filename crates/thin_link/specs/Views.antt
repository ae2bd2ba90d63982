-- How the code's rows are seen.
use Rattle.std.specs.Prelude.{◌≤◌, ℕ, nat_eq, Bool, List, All, Vec, map}

abbrev pub rows : {Z : Type 0} → List (Vec ℕ Z) → List (List ℕ)
rows lists = map (λ v. v.items) lists

-- the members are the numbers that were noted in this turn
abbrev pub noted_in : ℕ → List ℕ → List Bool
noted_in turn turns = map (nat_eq turn) turns

-- no number was noted in a turn to come
abbrev pub AreNoted : ℕ → List ℕ → Type 0
AreNoted turn turns = All (λ t. t ≤ turn) turns
