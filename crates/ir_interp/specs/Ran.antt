-- What an instruction makes of registers and memory, against the definition's effect.
use Rattle.std.specs.Prelude.{◌≡◌, ℕ, ◌<◌, Bool, true, false, List, [], length, Option, Some, None}
use Rattle.ir_tree.specs.declared.operand.Symbol.{Symbol}
use Rattle.ir_meaning.specs.Execute as meaning
use Rattle.ir_meaning.specs.Fault as fault
use Rattle.ir_meaning.specs.Frame.{Locals, Signature, bind}
use Rattle.ir_meaning.specs.Memory.{Memory as MeantMemory}
use Rattle.ir_meaning.specs.declared.value.Value.{Value as MeantValue}
use Rattle.ir_machine.specs.Memories.{KeepsHandles}
use Rattle.ir_machine.specs.declared.memory.Memory.{Memory}
use Rattle.ir_interp.specs.Locals.{AreLocals, IsMemory}
use Rattle.ir_interp.specs.declared.registers.Registers.{Registers}
use Rattle.ir_interp.specs.declared.ran.Ran.{Ran}
use Rattle.ir_interp.specs.declared.ran.Ran.TheVariants.{Undefined, Uninit, Went}

abbrev pub HasRoom : Registers → Option ℕ → Type 0
HasRoom r None = Unit {0}
HasRoom r (Some x) = x < length r.cells.items

-- registers and memory stand for these locals and this memory, and handles still hold
pub record StandFor (names : List Symbol) (m : Memory) (memory : MeantMemory) (m' : Memory) (r' : Registers) (memory' : MeantMemory) (locals' : Locals) : Type 0 where
  pub holds : IsMemory names m' memory'
  pub reads : AreLocals names m' memory' r' locals'
  pub keeps : KeepsHandles m memory m' memory'

abbrev pub new_slot : Bool → ℕ → Option ℕ
new_slot false k = None
new_slot true k = Some k

-- the definition's effect is this one, with every signature, input and place in it
abbrev pub HasEffect : MeantMemory → ℕ → meaning.Task → (ℕ → meaning.Effect) → Type 0
HasEffect memory choice t effect = (sig : Signature) (input : List ℕ) (place : ℕ) → meaning.execute sig input memory place choice t ≡ effect place

-- it goes on with this value and this memory
pub record Goes (names : List Symbol) (m : Memory) (memory : MeantMemory) (locals : Locals) (local : Option ℕ) (choice : ℕ) (t : meaning.Task) (m' : Memory) (r' : Registers) (reserved : Bool) : Type 0 where
  pub value : Option MeantValue
  pub after : MeantMemory
  pub effect : HasEffect memory choice t (λ place. meaning.Went value (new_slot reserved (length memory)) after place [])
  pub stand : StandFor names m memory m' r' after (bind local value locals)

abbrev pub IsRan : List Symbol → Memory → MeantMemory → Locals → Option ℕ → ℕ → meaning.Task → Memory → Registers → Ran → Type 0
IsRan names m memory locals local choice t m' r' (Went reserved) = Goes names m memory locals local choice t m' r' reserved
IsRan names m memory locals local choice t m' r' (Undefined cause) =
    HasEffect memory choice t (λ place. meaning.Broke (fault.Undefined cause)) × StandFor names m memory m' r' memory locals
IsRan names m memory locals local choice t m' r' Uninit =
    HasEffect memory choice t (λ place. meaning.Broke fault.Uninit) × StandFor names m memory m' r' memory locals
