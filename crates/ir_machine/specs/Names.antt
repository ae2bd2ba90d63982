-- The program's symbols in the order of its table.
use Rattle.std.specs.Prelude.{◌≡◌, ◌≢◌, ℕ, ◌<◌, false, List, length}
use Rattle.ir_tree.specs.declared.operand.Symbol.{Symbol}
use Rattle.ir_tree.specs.Symbols.{symbol_eq}
use Rattle.ir_machine.specs.Meant.{symbol_at}
use Rattle.ir_machine.specs.declared.scalar.Base.{Base}
use Rattle.ir_machine.specs.declared.scalar.Base.TheVariants.{Block, Function, Null}
use Rattle.ir_machine.specs.declared.scalar.Scalar.{Scalar}
use Rattle.ir_machine.specs.declared.scalar.Scalar.TheVariants as scalar

-- no symbol stands there twice
abbrev pub AreDistinct : List Symbol → Type 0
AreDistinct names = (i j : ℕ) → i < length names → j < length names → i ≢ j → symbol_eq (symbol_at names i) (symbol_at names j) ≡ false

-- a function is one of the table
abbrev pub IsNamed : List Symbol → Base → Type 0
IsNamed names Null = Unit {0}
IsNamed names (Function i) = i < length names
IsNamed names (Block h) = Unit {0}

abbrev pub IsNamedScalar : List Symbol → Scalar → Type 0
IsNamedScalar names (scalar.Number n) = Unit {0}
IsNamedScalar names (scalar.Pointer p) = IsNamed names p.base
IsNamedScalar names scalar.Poison = Unit {0}
