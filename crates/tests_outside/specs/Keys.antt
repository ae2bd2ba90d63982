-- The keys of the tests.
use Rattle.std.specs.Prelude.{ℕ, List, [], ◌∷◌, codes}

abbrev pub test_keys : List (List ℕ)
test_keys = codes "a" ∷ codes "b" ∷ []
