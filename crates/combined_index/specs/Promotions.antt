-- The locals that imports make other modules refer to.
use Rattle.std.specs.Prelude.{◌≡◌, ◌≢◌, ◌<◌, ◌↔◌, ℕ, Bool, true, List, [], Some, Contains, filter, length, slice_index_or}
use Rattle.std.specs.List.{range_with_len}
use Rattle.combined_index.specs.Combined.{Combined, prevailing_of}
use Rattle.combined_index.specs.Entries.{is_module}
use Rattle.combined_index.specs.Indexed.{symbol_at}
use Rattle.combined_index.specs.declared.definition.Definition.{Definition}

-- the symbol is local to the module
abbrev pub is_local_to : Combined → ℕ → ℕ → Bool
is_local_to c home n = is_module home (symbol_at c.symbols n).home

-- a local of the module to which a body refers that another module imports
pub record IsPromoted (c : Combined) (imports : List (List ℕ)) (home n : ℕ) : Type 0 where
  pub local : is_local_to c home n ≡ true
  pub importer : ℕ
  pub other : importer ≢ home
  pub function : ℕ
  pub imported : Contains (slice_index_or imports importer []) function
  pub body : Definition
  pub prevails : prevailing_of c function ≡ Some body
  pub refers : Contains body.refs n

-- of all numbers of symbols those of the module's promoted locals, in order
pub record Lists (c : Combined) (imports : List (List ℕ)) (home : ℕ) (list : List ℕ) : Type 0 where
  pub test : ℕ → Bool
  pub decides : (n : ℕ) → (test n ≡ true) ↔ IsPromoted c imports home n
  pub list_is : list ≡ filter test (range_with_len 0 (length c.symbols))

-- such a list for each module
pub record ArePromoted (c : Combined) (imports lists : List (List ℕ)) : Type 0 where
  pub modules : length lists ≡ length c.modules
  pub promoted : (home : ℕ) → home < length c.modules → Lists c imports home (slice_index_or lists home [])
