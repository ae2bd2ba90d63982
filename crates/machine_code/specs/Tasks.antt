-- Instructions and the tasks that stand for them, where symbols have these addresses.
use Rattle.std.specs.Prelude.{◌≡◌, ◌≤◌, List, All}
use Rattle.ir_tree.specs.Layout.{IsLaidOut}
use Rattle.ir_tree.specs.declared.instr.Instr.{Instr}
use Rattle.ir_tree.specs.declared.instr.Instr.TheVariants as kind
use Rattle.ir_tree.specs.declared.operand.Symbol.{Symbol}
use Rattle.ir_meaning.specs.Execute.{evaluate}
use Rattle.ir_meaning.specs.Frame.{Locals, Signature, value_of}
use Rattle.ir_meaning.specs.Memory.{Memory as MeantMemory}
use Rattle.ir_machine.specs.Marks.{HasWidth}
use Rattle.ir_machine.specs.declared.memory.Memory.{Memory}
use Rattle.ir_interp.specs.Tasks.{CanRun, IsSoundCast, IsTaskKnown, task_meant}
use Rattle.ir_interp.specs.declared.task.Task.{Task}
use Rattle.machine_code.specs.Addresses.{AreValid, HasAddresses}
use Rattle.machine_code.specs.declared.addresses.Addresses.{Addresses}

-- an instruction of a sound function: widths are 1 to 64, alignments at least 1, shapes are laid out, casts go the right way
abbrev pub IsSoundInstr : Instr → Type 0
IsSoundInstr (kind.Binary op flags width left right) = (1 ≤ width) × (width ≤ 64)
IsSoundInstr (kind.Icmp predicate reg left right) = HasWidth reg
IsSoundInstr (kind.Cast op from value to) = IsSoundCast op from to
IsSoundInstr (kind.Freeze reg value) = HasWidth reg
IsSoundInstr (kind.Alloca shape align) = IsLaidOut shape
IsSoundInstr (kind.Load reg address align) = HasWidth reg × (1 ≤ align)
IsSoundInstr (kind.Store reg value address align) = HasWidth reg × (1 ≤ align)
IsSoundInstr (kind.Address inbounds shape base indices) = IsLaidOut shape × All (λ i. HasWidth i.reg) indices
IsSoundInstr _ = Unit {0}

-- the task is the instruction's whatever the locals, what is known of it before the run is valid, and it can run
pub record IsTask (t : Addresses) (i : Instr) (task : Task) : Type 0 where
  pub means : (names : List Symbol) (sig : Signature) → HasAddresses names sig t → (locals : Locals) → task_meant names locals task ≡ evaluate (value_of sig locals) i
  pub known : (names : List Symbol) (m : Memory) (memory : MeantMemory) → AreValid names m memory t → IsTaskKnown names m memory task
  pub can : CanRun task
