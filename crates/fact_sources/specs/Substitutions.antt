-- What a substitution has for a local.
use Rattle.std.specs.Prelude.{◌≡◌, ℕ, List, Option}
use Rattle.ir_tree.specs.declared.operand.Operand.{Operand}
use Rattle.ir_edit.specs.Substituted.{replacement}
use Rattle.fact_sources.specs.Tables.{row_in}
use Rattle.fact_sources.specs.declared.substitution.Substitution.{Substitution}

abbrev pub value_in : Substitution → ℕ → Option Operand
value_in s x = row_in s.table x

-- it has what these pairs have, of a local that stands twice the later operand
abbrev pub IsOf : List (ℕ × Operand) → Substitution → Type 0
IsOf pairs s = (x : ℕ) → value_in s x ≡ replacement pairs x
