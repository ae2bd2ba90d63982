-- Sets of locals that are closed under reading, and the least of them.
use Rattle.std.specs.Prelude.{◌≡◌, ℕ, Bool, true, List, [], ◌∷◌}

abbrev pub AllIn : (ℕ → Bool) → List ℕ → Type 0
AllIn keeps [] = Unit {0}
AllIn keeps (x ∷ xs) = (keeps x ≡ true) × AllIn keeps xs

-- the set has what is read first, and what is read for each of its locals
abbrev pub IsClosedUnder : List ℕ → (ℕ → List ℕ) → (ℕ → Bool) → Type 0
IsClosedUnder first read keeps = AllIn keeps first × ((x : ℕ) → keeps x ≡ true → AllIn keeps (read x))

pub record IsLeastUnder (first : List ℕ) (read : ℕ → List ℕ) (keeps : ℕ → Bool) : Type 0 where
  pub closed : IsClosedUnder first read keeps
  pub least : (others : ℕ → Bool) → IsClosedUnder first read others → (x : ℕ) → keeps x ≡ true → others x ≡ true
