-- Operands and the sources that stand for them, where symbols have these addresses.
use Rattle.std.specs.Prelude.{◌≡◌, List}
use Rattle.ir_tree.specs.declared.operand.Argument.{Argument}
use Rattle.ir_tree.specs.declared.operand.Operand.{Operand}
use Rattle.ir_tree.specs.declared.operand.Symbol.{Symbol}
use Rattle.ir_meaning.specs.Frame.{Locals, Signature, value_of}
use Rattle.ir_meaning.specs.Memory.{Memory as MeantMemory}
use Rattle.ir_machine.specs.declared.memory.Memory.{Memory}
use Rattle.ir_interp.specs.Locals.{IsKnown, source_meant}
use Rattle.ir_interp.specs.declared.source.Source.{Source}
use Rattle.ir_interp.specs.declared.source.Typed.{Typed}
use Rattle.machine_code.specs.Addresses.{AreValid, HasAddresses}
use Rattle.machine_code.specs.declared.addresses.Addresses.{Addresses}

-- whatever the locals, the source has the value of the operand; what is known of it before the run is valid
pub record StandsFor (t : Addresses) (o : Operand) (s : Source) : Type 0 where
  pub means : (names : List Symbol) (sig : Signature) → HasAddresses names sig t → (locals : Locals) → source_meant names locals s ≡ value_of sig locals o
  pub known : (names : List Symbol) (m : Memory) (memory : MeantMemory) → AreValid names m memory t → IsKnown names m memory s

-- the same with a type
pub record IsTyped (t : Addresses) (a : Argument) (b : Typed) : Type 0 where
  pub reg : b.reg ≡ a.reg
  pub stands : StandsFor t a.operand b.source
