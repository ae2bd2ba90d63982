-- What each module of a link imports.
use Rattle.std.specs.Prelude.{◌≡◌, ◌<◌, ◌↔◌, ℕ, Bool, List, [], length, Contains, slice_index_or}
use Rattle.std.specs.List.Sorted.{IsStrictlyIncreasing}
use Rattle.combined_index.specs.Combined.{Combined}
use Rattle.combined_index.specs.declared.definition.Definition.{Definition}
use Rattle.thin_link.specs.Chains.{IsImported}

-- the functions that a module of these definitions imports, in the order of their numbers, each once
pub record Imports (c : Combined) (live : List Bool) (limit : ℕ) (own : List Definition) (list : List ℕ) : Type 0 where
  pub rising : IsStrictlyIncreasing list
  pub imported : (g : ℕ) → Contains list g ↔ IsImported c live limit own g

abbrev pub definitions_at : Combined → ℕ → List Definition
definitions_at c m = slice_index_or c.modules m []

-- such a list for each module
pub record IsPlan (c : Combined) (live : List Bool) (limit : ℕ) (lists : List (List ℕ)) : Type 0 where
  pub modules : length lists ≡ length c.modules
  pub imports : (m : ℕ) → m < length c.modules → Imports c live limit (definitions_at c m) (slice_index_or lists m [])
