-- The tasks of the definitions that tasks over sources are.
use Rattle.std.specs.Prelude.{◌≡◌, ℕ, ◌≤◌, Bool, All, ℤ, List, [], ◌∷◌, Option, Some, None}
use Rattle.ir_tree.specs.Forms.{Form}
use Rattle.ir_tree.specs.Layout.{IsLaidOut}
use Rattle.ir_tree.specs.declared.instr.CastOp.{CastOp}
use Rattle.ir_tree.specs.declared.operand.Reg.{Reg}
use Rattle.ir_tree.specs.declared.operand.Reg.TheVariants.{Int}
use Rattle.ir_tree.specs.declared.operand.Symbol.{Symbol}
use Rattle.ir_meaning.specs.Address.{new_offset}
use Rattle.ir_meaning.specs.Execute as meaning
use Rattle.ir_meaning.specs.Frame.{Locals, Signature, cons_index, index_of}
use Rattle.ir_meaning.specs.Memory.{Memory as MeantMemory}
use Rattle.ir_meaning.specs.WordsAgree.{IsCast}
use Rattle.ir_meaning.specs.declared.value.Value.{Value as MeantValue}
use Rattle.ir_machine.specs.Marks.{HasWidth}
use Rattle.ir_machine.specs.Meant.{answered}
use Rattle.ir_machine.specs.declared.memory.Memory.{Memory}
use Rattle.ir_machine.specs.declared.outcome.Outcome.{Outcome}
use Rattle.ir_interp.specs.Locals.{AreKnown, IsKnown, IsValidOutcome, source_meant}
use Rattle.ir_interp.specs.declared.source.Typed.{Typed}
use Rattle.ir_interp.specs.declared.task.Compute.{Compute}
use Rattle.ir_interp.specs.declared.task.Compute.TheVariants as compute
use Rattle.ir_interp.specs.declared.task.Task.{Task}
use Rattle.ir_interp.specs.declared.task.Task.TheVariants as task

-- the indices, where none is poison
abbrev pub indices_meant : List Symbol → Locals → List Typed → Option (List ℤ)
indices_meant names locals [] = Some []
indices_meant names locals (t ∷ ts) = cons_index (index_of t.reg (source_meant names locals t.source)) (indices_meant names locals ts)

abbrev pub values_meant : List Symbol → Locals → List Typed → List MeantValue
values_meant names locals [] = []
values_meant names locals (t ∷ ts) = source_meant names locals t.source ∷ values_meant names locals ts

abbrev pub regs_of : List Typed → List Reg
regs_of [] = []
regs_of (t ∷ ts) = t.reg ∷ regs_of ts

-- the offset behind indices, where none is poison
abbrev pub offset_by : Bool → Form → ℕ → ℕ → Option (List ℤ) → Option ℕ
offset_by inbounds shape size offset None = None
offset_by inbounds shape size offset (Some is) = new_offset inbounds shape size offset is

abbrev pub compute_meant : List Symbol → Locals → Compute → meaning.Task
compute_meant names locals (compute.Binary op flags width left right) =
    meaning.ToBinary op flags width (source_meant names locals left) (source_meant names locals right)
compute_meant names locals (compute.Compare predicate reg left right) =
    meaning.ToCompare predicate reg (source_meant names locals left) (source_meant names locals right)
compute_meant names locals (compute.Cast op from to value) = meaning.ToCast op from to (source_meant names locals value)
compute_meant names locals (compute.Select c t f) =
    meaning.ToSelect (source_meant names locals c) (source_meant names locals t) (source_meant names locals f)
compute_meant names locals (compute.Freeze reg value) = meaning.ToFreeze reg (source_meant names locals value)
compute_meant names locals (compute.Load reg address align) = meaning.ToLoad reg (source_meant names locals address) align
compute_meant names locals (compute.Address inbounds shape base indices) =
    meaning.ToAddress inbounds shape.now (source_meant names locals base) (indices_meant names locals indices.items)
compute_meant names locals compute.Poison = meaning.ToPoison

-- the definition's task with the values of the sources
abbrev pub task_meant : List Symbol → Locals → Task → meaning.Task
task_meant names locals (task.Compute c) = compute_meant names locals c
task_meant names locals (task.Reserve size align) = meaning.ToReserve size align
task_meant names locals (task.Store reg value address align) =
    meaning.ToStore reg (source_meant names locals value) (source_meant names locals address) align
task_meant names locals (task.Call result callee arguments) =
    meaning.ToCall result (regs_of arguments.items) (values_meant names locals arguments.items) (source_meant names locals callee)

-- a cast goes the right way, where it is of integers
abbrev pub IsSoundCast : CastOp → Reg → Reg → Type 0
IsSoundCast op (Int from) (Int to) = (1 ≤ from) × (from ≤ 64) × (1 ≤ to) × (to ≤ 64) × IsCast op from to
IsSoundCast op _ _ = Unit {0}

-- widths are 1 to 64, alignments at least 1, shapes are laid out, casts go the right way
abbrev pub CanCompute : Compute → Type 0
CanCompute (compute.Binary op flags width left right) = (1 ≤ width) × (width ≤ 64)
CanCompute (compute.Compare predicate reg left right) = HasWidth reg
CanCompute (compute.Cast op from to value) = IsSoundCast op from to
CanCompute (compute.Select c t f) = Unit {0}
CanCompute (compute.Freeze reg value) = HasWidth reg
CanCompute (compute.Load reg address align) = HasWidth reg × (1 ≤ align)
CanCompute (compute.Address inbounds shape base indices) = IsLaidOut shape.now × All (λ i. HasWidth i.reg) indices.items
CanCompute compute.Poison = Unit {0}

abbrev pub CanRun : Task → Type 0
CanRun (task.Compute c) = CanCompute c
CanRun (task.Reserve size align) = Unit {0}
CanRun (task.Store reg value address align) = HasWidth reg × (1 ≤ align)
CanRun (task.Call result callee arguments) = Unit {0}

-- what is known before the run in a task is valid
abbrev pub IsComputeKnown : List Symbol → Memory → MeantMemory → Compute → Type 0
IsComputeKnown names m memory (compute.Binary op flags width left right) = IsKnown names m memory left × IsKnown names m memory right
IsComputeKnown names m memory (compute.Compare predicate reg left right) = IsKnown names m memory left × IsKnown names m memory right
IsComputeKnown names m memory (compute.Cast op from to value) = IsKnown names m memory value
IsComputeKnown names m memory (compute.Select c t f) = IsKnown names m memory c × IsKnown names m memory t × IsKnown names m memory f
IsComputeKnown names m memory (compute.Freeze reg value) = IsKnown names m memory value
IsComputeKnown names m memory (compute.Load reg address align) = IsKnown names m memory address
IsComputeKnown names m memory (compute.Address inbounds shape base indices) = IsKnown names m memory base × AreKnown names m memory indices.items
IsComputeKnown names m memory compute.Poison = Unit {0}

abbrev pub IsTaskKnown : List Symbol → Memory → MeantMemory → Task → Type 0
IsTaskKnown names m memory (task.Compute c) = IsComputeKnown names m memory c
IsTaskKnown names m memory (task.Reserve size align) = Unit {0}
IsTaskKnown names m memory (task.Store reg value address align) = IsKnown names m memory value × IsKnown names m memory address
IsTaskKnown names m memory (task.Call result callee arguments) = IsKnown names m memory callee × AreKnown names m memory arguments.items

-- an outcome is what the definition gives of a task, and valid
abbrev pub IsPerformed : List Symbol → Memory → MeantMemory → ℕ → meaning.Task → Outcome → Type 0
IsPerformed names m memory choice t o =
    ((sig : Signature) (input : List ℕ) (place : ℕ) → meaning.execute sig input memory place choice t ≡ meaning.gives memory place (answered names o))
    × IsValidOutcome names m memory o
