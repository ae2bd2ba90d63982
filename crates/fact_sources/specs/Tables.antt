-- What a table has for a local.
use Rattle.std.specs.Prelude.{ℕ, List, slice_get, Option, Some, None}
use Rattle.std.specs.Borrow.{Bor}
use Rattle.ir_tree.specs.declared.operand.Operand.{Operand}
use Rattle.fact_sources.specs.declared.table.Table.{Table}

abbrev pub taken : Option (Option (Bor Operand)) → Option Operand
taken None = None
taken (Some None) = None
taken (Some (Some o)) = Some o.now

abbrev pub row_of : List (Option (Bor Operand)) → ℕ → Option Operand
row_of rows x = taken (slice_get rows x)

abbrev pub row_in : Table → ℕ → Option Operand
row_in t x = row_of t.rows.items x
