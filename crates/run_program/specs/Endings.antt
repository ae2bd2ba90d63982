-- How the machine's ending of a run is told.
use Rattle.std.specs.Prelude.{◌≡◌, Option}
use Rattle.ir_tree.specs.declared.operand.Reg.{Reg}
use Rattle.ir_meaning.specs.Run.{Ending, Returned}
use Rattle.ir_meaning.specs.declared.value.Value.{Value}
use Rattle.ir_interp.specs.declared.end.RunFault.{RunFault}
use Rattle.ir_interp.specs.declared.end.RunFault.TheVariants as fault
use Rattle.lto_fault.specs.declared.refusal.Refusal.{Refusal}
use Rattle.lto_fault.specs.declared.refusal.Refusal.TheVariants.{NoMemory, ReadFault, WriteFault}
use Rattle.lto_fault.specs.declared.returned.Returned as line
use Rattle.run_program.specs.Said.{answer_said}
use Rattle.run_program.specs.Streams.{Streams}
use Rattle.run_program.specs.declared.streams.StreamNames.{StreamNames}

-- the run returned, and this is said of its answer
pub record IsSaid (gives : Option Reg) (ending : Ending) (r : line.Returned) : Type 0 where
  pub answer : Option Value
  pub returned : ending ≡ Returned answer
  pub is : r ≡ answer_said gives answer

-- it was given up before its first step, for want of memory
abbrev pub Unbegun : RunFault → Streams → Type 0
Unbegun why t = (why ≡ fault.NoMemory) × t.unused

-- that the run was given up
abbrev pub given_up : StreamNames → RunFault → Refusal
given_up streams fault.In = ReadFault streams.input
given_up streams fault.Out = WriteFault streams.output
given_up streams fault.NoMemory = NoMemory
