-- The stack blocks of a frame among all blocks that live.
use Rattle.std.specs.Prelude.{◌≡◌, ℕ, List, [], ◌∷◌, ◌++◌}

-- of these numbers the last are those of the slots, the newest slot last, and the others are in front
abbrev pub AreLast : List ℕ → List ℕ → List ℕ → Type 0
AreLast numbers [] front = numbers ≡ front
AreLast numbers (k ∷ ks) front = (rest : List ℕ) × ((numbers ≡ rest ++ k ∷ []) × AreLast rest ks front)
