-- Rows of a table: for each number those that it leads to.
use Rattle.std.specs.Prelude.{ℕ, ◌<◌, List, [], All, slice_index_or}

-- a number past the end leads nowhere
abbrev pub row : List (List ℕ) → ℕ → List ℕ
row rows n = slice_index_or rows n []

-- the rows lead to numbers below the size
abbrev pub AreBelow : ℕ → List (List ℕ) → Type 0
AreBelow size rows = All (λ r. All (λ n. n < size) r) rows
