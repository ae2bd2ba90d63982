-- The names that live symbols have in the linked module.
use Rattle.std.specs.Prelude.{◌≡◌, ◌<◌, ℕ, Bool, true, false, List, [], ◌∷◌, ◌++◌, Option, Some, None, slice_get, slice_index_or, Result, Ok, Err}
use Rattle.ir_tree.specs.declared.operand.Symbol.{Symbol}
use Rattle.symbol_resolve.specs.Clashes.{IsLeast}
use Rattle.ir_tree.specs.declared.failure.Failure.{Failure}
use Rattle.combined_index.specs.declared.error.NameTaken.{NameTaken}
use Rattle.ir_tree.specs.declared.failure.Failure.TheVariants as error

-- what stands behind the name: the suffix of a local's module, nothing of another symbol
abbrev pub suffix_at : List (List ℕ) → Option ℕ → List ℕ
suffix_at suffixes None = []
suffix_at suffixes (Some home) = slice_index_or suffixes home []

abbrev pub final_name : List (List ℕ) → Symbol → List ℕ
final_name suffixes s = s.name ++ suffix_at suffixes s.home

abbrev pub name_where : List (List ℕ) → Symbol → Bool → Option (List ℕ)
name_where suffixes s true = Some (final_name suffixes s)
name_where suffixes s false = None

-- the final names of the symbols that are marked live
abbrev pub final_names : List (List ℕ) → List Symbol → List Bool → List (Option (List ℕ))
final_names suffixes [] live = []
final_names suffixes (s ∷ symbols) [] = None ∷ final_names suffixes symbols []
final_names suffixes (s ∷ symbols) (mark ∷ live) = name_where suffixes s mark ∷ final_names suffixes symbols live

-- two symbols have one final name
abbrev pub IsTaken : List (Option (List ℕ)) → List ℕ → Type 0
IsTaken names name = (i j : ℕ) × (i < j) × (slice_get names i ≡ Some (Some name)) × (slice_get names j ≡ Some (Some name))

abbrev pub NoneTaken : List (Option (List ℕ)) → Type 0
NoneTaken names = (name : List ℕ) → IsTaken names name → ⊥

-- what a call gives that may lack memory; of the names that are taken it tells the least
abbrev pub GivesNames : List (Option (List ℕ)) → Result (List (Option (List ℕ))) (Failure NameTaken) → Type 0
GivesNames names (Ok given) = (given ≡ names) × NoneTaken names
GivesNames names (Err (error.Fault taken)) = IsLeast (IsTaken names) taken.name
GivesNames names (Err error.NoMemory) = Unit {0}
