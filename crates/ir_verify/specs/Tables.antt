-- Tables by number, as lists of pairs of which the first of a number counts.
use Rattle.std.specs.Prelude.{◌≡◌, ℕ, nat_eq, if◌then◌else◌, List, [], ◌∷◌, slice_index_or, Option, Some, None}

abbrev pub found : {T : Type 0} → List (ℕ × T) → ℕ → Option T
found [] x = None
found (p ∷ ps) x = if nat_eq p.0 x then Some p.1 else found ps x

-- a table has under each number what the pairs have there
abbrev pub Holds : {T : Type 0} → List (Option T) → List (ℕ × T) → Type 0
Holds {T} table pairs = (x : ℕ) → slice_index_or table x None ≡ found pairs x
