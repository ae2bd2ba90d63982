-- What the machine's values mean. `names` are the program's symbols in the order of its table.
use Rattle.std.specs.Prelude.{ℕ, List, [], slice_get, Option, Some, None}
use Rattle.ir_tree.specs.declared.operand.Symbol.{Symbol}
use Rattle.ir_meaning.specs.Operate.{Answer, Is, Never, Unwritten}
use Rattle.ir_meaning.specs.declared.value.Base.{Base as MeantBase}
use Rattle.ir_meaning.specs.declared.value.Base.TheVariants.{Cell, Code, Nowhere}
use Rattle.ir_meaning.specs.declared.value.Value.{Value as MeantValue}
use Rattle.ir_meaning.specs.declared.value.Value.TheVariants as value
use Rattle.ir_machine.specs.declared.outcome.Outcome.{Outcome}
use Rattle.ir_machine.specs.declared.outcome.Outcome.TheVariants.{Uninit, Undefined, Value as OfValue}
use Rattle.ir_machine.specs.declared.scalar.Base.{Base}
use Rattle.ir_machine.specs.declared.scalar.Base.TheVariants.{Block, Function, Null}
use Rattle.ir_machine.specs.declared.scalar.Scalar.{Scalar}
use Rattle.ir_machine.specs.declared.scalar.Scalar.TheVariants as scalar

-- no symbol of a program
abbrev pub nameless : Symbol
nameless = record { home = None; name = [] }

abbrev pub symbol_or_none : Option Symbol → Symbol
symbol_or_none None = nameless
symbol_or_none (Some s) = s

-- the symbol of this index
abbrev pub symbol_at : List Symbol → ℕ → Symbol
symbol_at names i = symbol_or_none (slice_get names i)

abbrev pub base_meant : List Symbol → Base → MeantBase
base_meant names Null = Nowhere
base_meant names (Function i) = Code (symbol_at names i)
base_meant names (Block b) = Cell b.number

abbrev pub meant : List Symbol → Scalar → MeantValue
meant names (scalar.Number n) = value.Number n
meant names (scalar.Pointer p) = value.Pointer (base_meant names p.base) p.offset
meant names scalar.Poison = value.Poison

-- what an instruction computes, as the definition's answer
abbrev pub answered : List Symbol → Outcome → Answer
answered names (OfValue v) = Is (meant names v)
answered names (Undefined cause) = Never cause
answered names Uninit = Unwritten
