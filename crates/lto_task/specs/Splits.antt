-- Where bytes are split.
use Rattle.std.specs.Prelude.{◌≢◌, ℕ, List, [], ◌∷◌}

-- no byte is this one
abbrev pub Lacks : ℕ → List ℕ → Type 0
Lacks c [] = Unit {0}
Lacks c (x ∷ xs) = (x ≢ c) × Lacks c xs
