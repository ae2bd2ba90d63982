-- Functions with uses of locals replaced by operands, all at once.
use Rattle.std.specs.Prelude.{ℕ, List, [], ◌∷◌, Option, Some, None, ◌==◌, if◌then◌else◌}
use Rattle.ir_tree.specs.declared.function.Function.{Function}
use Rattle.ir_tree.specs.declared.operand.Operand.{Operand}
use Rattle.ir_tree.specs.declared.operand.Operand.TheVariants.{Local}
use Rattle.ir_tree.specs.Edited.{edited}
use Rattle.ir_edit.specs.Numbered.{later_or}

-- what these pairs of a local and an operand have for x; of a local that stands twice, the later operand
abbrev pub replacement : List (ℕ × Operand) → ℕ → Option Operand
replacement [] x = None
replacement (r ∷ rs) x = later_or (replacement rs x) (if r.0 == x then Some r.1 else None)

abbrev pub or_local : Option Operand → ℕ → Operand
or_local (Some o) x = o
or_local None x = Local x

-- the operand after a replacement of locals; what is put in isn't looked at again
abbrev pub operand_replaced : (ℕ → Option Operand) → Operand → Operand
operand_replaced value (Local x) = or_local (value x) x
operand_replaced value o = o

-- the function with each use of a local replaced by what these pairs have for it; definitions stay
abbrev pub substituted : List (ℕ × Operand) → Function → Function
substituted rs f = edited (λ x. x) (operand_replaced (replacement rs)) f
