-- The files of the modules that define symbols.
use Rattle.std.specs.Prelude.{ℕ, List, [], slice_index_or, Option, Some, None}
use Rattle.ir_tree.specs.declared.operand.Symbol.{Symbol}
use Rattle.symbol_resolve.specs.Resolved.{Symbols, module_of}

abbrev pub home_or : Option ℕ → Option ℕ → Option ℕ
home_or None chosen = chosen
home_or (Some k) chosen = Some k

-- the module that defines a symbol: a local's home, and of a name that modules share the module whose definition prevails
abbrev pub home_in : Symbols → Symbol → Option ℕ
home_in table s = home_or s.home (module_of table s.name)

abbrev pub file_at : List (List ℕ) → Option ℕ → List ℕ
file_at names None = []
file_at names (Some k) = slice_index_or names k []

-- the file of that module
abbrev pub file_in : List (List ℕ) → Symbols → Symbol → List ℕ
file_in names table s = file_at names (home_in table s)
