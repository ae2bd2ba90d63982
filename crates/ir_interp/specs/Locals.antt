-- Registers against the locals of a frame, and what sources are in it.
use Rattle.std.specs.Prelude.{◌≡◌, ℕ, List, [], ◌∷◌, slice_get, Option, Some, None}
use Rattle.ir_tree.specs.declared.operand.Symbol.{Symbol}
use Rattle.ir_meaning.specs.Frame.{Locals, look_up}
use Rattle.ir_meaning.specs.Memory.{Memory as MeantMemory}
use Rattle.ir_meaning.specs.declared.value.Value.{Value as MeantValue}
use Rattle.ir_machine.specs.Meant.{meant}
use Rattle.ir_machine.specs.Memories.{InMemory, IsBase, IsScalar, Stands}
use Rattle.ir_machine.specs.Names.{IsNamed, IsNamedScalar}
use Rattle.ir_machine.specs.declared.memory.Memory.{Memory}
use Rattle.ir_machine.specs.declared.outcome.Outcome.{Outcome}
use Rattle.ir_machine.specs.declared.outcome.Outcome.TheVariants as outcome
use Rattle.ir_machine.specs.declared.scalar.Pointer.{Pointer}
use Rattle.ir_machine.specs.declared.scalar.Scalar.{Scalar}
use Rattle.ir_machine.specs.declared.scalar.Scalar.TheVariants as scalar
use Rattle.ir_interp.specs.declared.registers.Registers.{Registers}
use Rattle.ir_interp.specs.declared.source.Source.{Source}
use Rattle.ir_interp.specs.declared.source.Source.TheVariants.{Known, Register}
use Rattle.ir_interp.specs.declared.source.Typed.{Typed}

abbrev pub or_poison : Option Scalar → Scalar
or_poison None = scalar.Poison
or_poison (Some v) = v

-- what a register holds
abbrev pub register_at : Registers → ℕ → Scalar
register_at r x = or_poison (slice_get r.cells.items x)

-- a block that a value points to is as its handle says, a function is one of the table
abbrev pub IsValid : List Symbol → Memory → MeantMemory → Scalar → Type 0
IsValid names m memory v = IsScalar m memory v × IsNamedScalar names v

abbrev pub IsValidOutcome : List Symbol → Memory → MeantMemory → Outcome → Type 0
IsValidOutcome names m memory (outcome.Value v) = IsValid names m memory v
IsValidOutcome names m memory (outcome.Undefined cause) = Unit {0}
IsValidOutcome names m memory outcome.Uninit = Unit {0}

-- the machine's memory stands for the meaning's, and the pointers in it are valid
pub record IsMemory (names : List Symbol) (m : Memory) (memory : MeantMemory) : Type 0 where
  pub stands : Stands names m memory
  pub sound : (p : Pointer) → InMemory m p → IsBase m memory p.base × IsNamed names p.base

-- each register means the value of its local, and is valid
pub record AreLocals (names : List Symbol) (m : Memory) (memory : MeantMemory) (r : Registers) (locals : Locals) : Type 0 where
  pub means : (x : ℕ) → meant names (register_at r x) ≡ look_up locals x
  pub valid : (x : ℕ) → IsValid names m memory (register_at r x)

-- the value of a source
abbrev pub source_meant : List Symbol → Locals → Source → MeantValue
source_meant names locals (Register x) = look_up locals x
source_meant names locals (Known v) = meant names v

abbrev pub IsKnown : List Symbol → Memory → MeantMemory → Source → Type 0
IsKnown names m memory (Register x) = Unit {0}
IsKnown names m memory (Known v) = IsValid names m memory v

abbrev pub AreKnown : List Symbol → Memory → MeantMemory → List Typed → Type 0
AreKnown names m memory [] = Unit {0}
AreKnown names m memory (t ∷ ts) = IsKnown names m memory t.source × AreKnown names m memory ts

-- a scalar is the value of a source, and valid
abbrev pub Evaluates : List Symbol → Memory → MeantMemory → Locals → Source → Scalar → Type 0
Evaluates names m memory locals source v = (meant names v ≡ source_meant names locals source) × IsValid names m memory v
