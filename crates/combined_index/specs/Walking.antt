-- A walk on its way: what it has reached, and what waits to be followed.
use Rattle.std.specs.Prelude.{◌≡◌, ◌↔◌, ℕ, suc, ◌+◌, Bool, true, false, ◌⊎◌, IsTrue, List, [], ◌∷◌, length, Contains}
use Rattle.lto_sets.specs.Sets.{contains}
use Rattle.combined_index.specs.Reach.{IsReached}

-- how many numbers aren't reached
abbrev pub outside : List Bool → ℕ
outside [] = 0
outside (true ∷ s) = outside s
outside (false ∷ s) = suc (outside s)

-- these numbers are reached, and those that weren't before wait
pub record Grown (reached : List Bool) (waiting numbers : List ℕ) (more : List Bool) (next : List ℕ) : Type 0 where
  pub long : length more ≡ length reached
  pub room : outside more + length next ≡ outside reached + length waiting
  pub stays : (b : ℕ) → contains reached b ≡ true → contains more b ≡ true
  pub there : (b : ℕ) → Contains numbers b → contains more b ≡ true
  pub from : (b : ℕ) → contains more b ≡ true → (contains reached b ≡ true) ⊎ Contains numbers b
  pub waits : (b : ℕ) → Contains waiting b → Contains next b
  pub new : (b : ℕ) → contains more b ≡ true → (contains reached b ≡ true) ⊎ Contains next b
  pub held : (b : ℕ) → Contains next b → Contains waiting b ⊎ Contains numbers b

-- what is reached is reachable and is followed or waits, and each start is reached
pub record IsWalk (IsStart : ℕ → Type 0) (row : ℕ → List ℕ) (reached : List Bool) (waiting : List ℕ) : Type 0 where
  pub sound : (b : ℕ) → contains reached b ≡ true → IsReached IsStart row b
  pub begun : (b : ℕ) → IsStart b → contains reached b ≡ true
  pub marked : (b : ℕ) → Contains waiting b → contains reached b ≡ true
  pub followed : (b : ℕ) → contains reached b ≡ true → Contains waiting b ⊎ ((t : ℕ) → Contains (row b) t → contains reached t ≡ true)

-- the members are the numbers that are reached
abbrev pub IsReach : (ℕ → Type 0) → (ℕ → List ℕ) → List Bool → Type 0
IsReach IsStart row reached = (b : ℕ) → IsTrue (contains reached b) ↔ IsReached IsStart row b
