-- A search in breadth for a walk that leads from a place back to it.
use Rattle.std.specs.Prelude.{◌≡◌, ℕ, suc, ◌+◌, ◌<◌, Bool, true, false, ◌⊎◌, List, [], ◌∷◌, length, slice_index_or}
use Rattle.ir_parse_names.specs.Walks.{Graph, next, leads}

abbrev pub Among : ℕ → List ℕ → Type 0
Among p [] = ⊥
Among p (q ∷ qs) = (p ≡ q) ⊎ Among p qs

-- a place that is found, or that has no row
abbrev pub is_seen : List Bool → ℕ → Bool
is_seen seen p = slice_index_or seen p true

-- how many places aren't found
abbrev pub unseen : List Bool → ℕ
unseen [] = 0
unseen (true ∷ s) = unseen s
unseen (false ∷ s) = suc (unseen s)

abbrev pub at : List ℕ → ℕ → ℕ
at found i = slice_index_or found i 0

-- the edges of the first so many that are found are gone over, and none leads back
pub record IsSearch (graph : Graph) (start : ℕ) (found : List ℕ) (seen : List Bool) (head : ℕ) : Type 0 where
  pub long : length seen ≡ length graph
  pub counted : length found + unseen seen ≡ length graph
  pub begun : is_seen seen start ≡ true
  pub held : (p : ℕ) → p < length graph → is_seen seen p ≡ true → (i : ℕ) × (i < length found) × (at found i ≡ p)
  -- each is found by a walk from the start that is no longer than its place
  pub ways : (i m : ℕ) → i < length found → leads m graph start (at found i) ≡ true → leads (m + i) graph start start ≡ true
  pub closed : (i p : ℕ) → i < head → Among p (next graph (at found i)) → (is_seen seen p ≡ true) × (p ≡ start → ⊥)

-- so are the first so many edges of the next one
pub record IsPassing (graph : Graph) (start : ℕ) (found : List ℕ) (seen : List Bool) (head : ℕ) (row : List ℕ) (count : ℕ) : Type 0 where
  pub searching : IsSearch graph start found seen head
  pub within : head < length found
  pub is_row : row ≡ next graph (at found head)
  pub passed : (k : ℕ) → k < count → (is_seen seen (at row k) ≡ true) × (at row k ≡ start → ⊥)
