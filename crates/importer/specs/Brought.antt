-- The values of a link by name, and what a module imports of them.
use Rattle.std.specs.Prelude.{ℕ, List, Option, Some, None, option_map, slice_get, filter_map, flat_map}
use Rattle.std.specs.List.{find}
use Rattle.std.specs.Str.{bytes_eq}
use Rattle.ir_tree.specs.declared.module.GlobalValue.{GlobalValue}
use Rattle.ir_tree.specs.declared.operand.Symbol.{Symbol}
use Rattle.ir_meaning.specs.Programs.{symbol_of}
use Rattle.combined_index.specs.Finals.{final_name}

abbrev pub joined : List (List GlobalValue) → List GlobalValue
joined = flat_map (λ gs. gs)

-- the first of these global values that has the name
abbrev pub value_named : List GlobalValue → List ℕ → Option GlobalValue
value_named gs name = find (λ g. bytes_eq (symbol_of g).name name) gs

-- what is imported: the values of these symbols, under their final names
abbrev pub value_of : List GlobalValue → List (List ℕ) → Option Symbol → Option GlobalValue
value_of all suffixes None = None
value_of all suffixes (Some s) = value_named all (final_name suffixes s)

abbrev pub brought : List GlobalValue → List Symbol → List (List ℕ) → List ℕ → List GlobalValue
brought all symbols suffixes numbers = filter_map (λ n. value_of all suffixes (slice_get symbols n)) numbers

-- the final names of the symbols of these numbers
abbrev pub names_of : List Symbol → List (List ℕ) → List ℕ → List (List ℕ)
names_of symbols suffixes numbers = filter_map (λ n. option_map (final_name suffixes) (slice_get symbols n)) numbers
