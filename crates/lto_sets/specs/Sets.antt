-- Sets of numbers below a size, as lists of booleans.
use Rattle.std.specs.Prelude.{ℕ, Bool, false, ◌&&◌, ◌||◌, List, [], ◌∷◌, slice_index_or}

-- whether the number is a member; none is from the size on
abbrev pub contains : List Bool → ℕ → Bool
contains s k = slice_index_or s k false

-- two sets of one size, number by number
abbrev pub combined : (Bool → Bool → Bool) → List Bool → List Bool → List Bool
combined f [] t = []
combined f (x ∷ s) [] = []
combined f (x ∷ s) (y ∷ t) = f x y ∷ combined f s t

abbrev pub meet_of : List Bool → List Bool → List Bool
meet_of s t = combined (λ x y. x && y) s t

abbrev pub join_of : List Bool → List Bool → List Bool
join_of s t = combined (λ x y. x || y) s t
