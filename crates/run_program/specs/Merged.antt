-- A run of what modules mean together.
use Rattle.std.specs.Prelude.{ℕ, List}
use Rattle.ir_tree.specs.declared.module.Module.{Module}
use Rattle.ir_tree.specs.declared.operand.Symbol.{Symbol}
use Rattle.lto_words.specs.declared.list.Decimal.{Decimal}
use Rattle.merge_meaning.specs.Merged.{merged}
use Rattle.run_program.specs.Files.{file_in}
use Rattle.symbol_resolve.specs.Resolved.{symbols}
use Rattle.run_program.specs.Causes.{Causes}
use Rattle.run_program.specs.Runs.{run_causes}
use Rattle.run_program.specs.Streams.{Streams}

-- the file of the module that defines a symbol
abbrev pub file_of : List (List ℕ) → List Module → Symbol → List ℕ
file_of names ms = file_in names (symbols ms)

-- what a run of the merged modules answers
abbrev pub merged_causes : List ℕ → List Decimal → ℕ → List (List ℕ) → Streams → List Module → Causes
merged_causes root args steps names t ms = run_causes (merged ms) root args (file_of names ms) steps t
