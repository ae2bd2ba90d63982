-- Operands that are locals of a set.
use Rattle.std.specs.Prelude.{ℕ, Bool, false, not, ◌&&◌}
use Rattle.ir_tree.specs.declared.operand.Operand.{Operand}
use Rattle.ir_tree.specs.declared.operand.Operand.TheVariants.{Local}

abbrev pub is_member : (ℕ → Bool) → Operand → Bool
is_member among (Local x) = among x
is_member among o = false

-- those of the first set that the second lacks
abbrev pub beside : (ℕ → Bool) → (ℕ → Bool) → ℕ → Bool
beside among but x = among x && not (but x)
