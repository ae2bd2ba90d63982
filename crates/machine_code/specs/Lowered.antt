-- What lowering makes of global values.
use Rattle.std.specs.Prelude.{List}
use Rattle.std.specs.List.{AllZip}
use Rattle.ir_tree.specs.Wholes.{symbols}
use Rattle.ir_tree.specs.declared.module.GlobalValue.{GlobalValue}
use Rattle.ir_meaning.specs.Memory.{Memory as MeantMemory}
use Rattle.ir_machine.specs.Names.{AreDistinct}
use Rattle.ir_machine.specs.declared.memory.Memory.{Memory}
use Rattle.ir_meaning.specs.Programs.{program_of}
use Rattle.ir_interp.specs.Code.{IsCode, IsRunnable, Knows}
use Rattle.ir_interp.specs.declared.code.Code.{Code}
use Rattle.machine_code.specs.Openings.{HoldsVariables}
use Rattle.machine_code.specs.Tables.{IsTable}
use Rattle.machine_code.specs.Programs.{IsBodyFor, IsEntityFor}
use Rattle.machine_code.specs.declared.code.Lowered.{Lowered}

-- each symbol has its address, each entity is its symbol's, each function is its global's
pub record IsMadeOf (gs : List GlobalValue) (l : Lowered) : Type 0 where
  pub table : IsTable gs l.addresses.bases
  pub entities : AllZip IsEntityFor gs l.code.entities.items
  pub bodies : AllZip (IsBodyFor l.addresses) gs l.code.functions.items

-- the code of the program that global values mean, with their symbols in their order as its table
pub record IsLowered (gs : List GlobalValue) (code : Code) : Type 0 where
  pub distinct : AreDistinct (symbols gs)
  pub is : IsCode (symbols gs) (program_of gs) code
  pub runnable : IsRunnable code
  -- over each memory that holds the variables
  pub knows : (m : Memory) (memory : MeantMemory) → HoldsVariables gs m memory → Knows (symbols gs) code m memory
