-- Elements that come several times, each once.
use Rattle.std.specs.Prelude.{ℕ, Bool, not, List, [], ◌∷◌, filter}
use Rattle.std.specs.Str.{bytes_eq}

-- the other elements, by this equality
abbrev pub without_by : {X : Type 0} → (X → X → Bool) → X → List X → List X
without_by eq x xs = filter (λ y. not (eq x y)) xs

-- each element once, where it comes first
abbrev pub once_by : {X : Type 0} → (X → X → Bool) → List X → List X
once_by eq [] = []
once_by eq (x ∷ xs) = x ∷ without_by eq x (once_by eq xs)

-- the other names
abbrev pub without : List ℕ → List (List ℕ) → List (List ℕ)
without = without_by bytes_eq

-- each name once, where it comes first
abbrev pub once : List (List ℕ) → List (List ℕ)
once = once_by bytes_eq
