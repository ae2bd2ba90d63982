-- Lines against the instructions that they stand for, and what frames do next.
use Rattle.std.specs.Prelude.{◌≡◌, ℕ, List, [], ◌∷◌, ◌++◌, length, true, false}
use Rattle.ir_tree.specs.declared.instr.Line.{Line as MeantLine}
use Rattle.ir_tree.specs.declared.operand.Symbol.{Symbol}
use Rattle.ir_meaning.specs.Act.{Act, Breaks, act, with_slot}
use Rattle.ir_meaning.specs.Act as act
use Rattle.ir_meaning.specs.Execute.{evaluate}
use Rattle.ir_meaning.specs.Fault as fault
use Rattle.ir_meaning.specs.Frame.{Frame, Locals, Signature, value_of}
use Rattle.ir_meaning.specs.Memory.{Memory as MeantMemory}
use Rattle.ir_machine.specs.Memories.{numbers_of}
use Rattle.ir_machine.specs.declared.memory.Memory.{Memory}
use Rattle.ir_interp.specs.Ran.{IsRan, StandFor, new_slot}
use Rattle.ir_interp.specs.Tasks.{task_meant}
use Rattle.ir_interp.specs.declared.registers.Registers.{Registers}
use Rattle.ir_interp.specs.declared.ran.Ran.{Ran}
use Rattle.ir_interp.specs.declared.ran.Ran.TheVariants.{Undefined, Uninit, Went}
use Rattle.ir_interp.specs.declared.task.Task.{Task}
use Rattle.ir_interp.specs.declared.task.Task.TheVariants as task
use Rattle.ir_interp.specs.declared.line.CodeLine.{CodeLine}
use Rattle.ir_interp.specs.declared.line.Reached.{Reached}
use Rattle.ir_interp.specs.declared.line.Reached.TheVariants as reached

abbrev pub IsCall : Task → Type 0
IsCall (task.Call result callee arguments) = Unit {0}
IsCall _ = ⊥

-- what a line came to: of a call nothing was done
abbrev pub IsReached : List Symbol → Memory → MeantMemory → Locals → CodeLine → ℕ → Memory → Registers → Reached → Type 0
IsReached names m memory locals line choice m' r' (reached.Ran ran) = IsRan names m memory locals line.local choice (task_meant names locals line.task) m' r' ran
IsReached names m memory locals line choice m' r' reached.Call = IsCall line.task × StandFor names m memory m' r' memory locals

-- the numbers of the blocks that live behind a line: a stack block that was made is the last one
abbrev pub HasRanNumbers : Memory → Memory → Ran → Type 0
HasRanNumbers m m' (Went true) = numbers_of m'.blocks.items ≡ numbers_of m.blocks.items ++ m.made ∷ []
HasRanNumbers m m' (Went false) = numbers_of m'.blocks.items ≡ numbers_of m.blocks.items
HasRanNumbers m m' (Undefined cause) = numbers_of m'.blocks.items ≡ numbers_of m.blocks.items
HasRanNumbers m m' Uninit = numbers_of m'.blocks.items ≡ numbers_of m.blocks.items

abbrev pub HasNumbers : Memory → Memory → Reached → Type 0
HasNumbers m m' (reached.Ran ran) = HasRanNumbers m m' ran
HasNumbers m m' reached.Call = numbers_of m'.blocks.items ≡ numbers_of m.blocks.items

-- a line stands for an instruction: it has its result, and does the same whatever the locals
pub record IsLine (names : List Symbol) (sig : Signature) (l : MeantLine) (line : CodeLine) : Type 0 where
  pub local : line.local ≡ l.local
  pub task : (locals : Locals) → task_meant names locals line.task ≡ evaluate (value_of sig locals) l.instr

-- a frame did this: it goes on behind its line with registers and memory that stand for its own, or breaks
abbrev pub HasActed : List Symbol → Memory → MeantMemory → Frame → List MeantLine → Memory → Registers → ℕ → Ran → Act → Type 0
HasActed names m memory frame rest m' r' place (Went reserved) a =
    (locals : Locals) × ((after : MeantMemory) × (StandFor names m memory m' r' after locals × (a ≡ act.Goes (record frame {
      rest = rest;
      locals = locals;
      slots = with_slot (new_slot reserved (length memory)) frame.slots;
    }) after place [])))
HasActed names m memory frame rest m' r' place (Undefined cause) a = a ≡ Breaks (fault.Undefined cause)
HasActed names m memory frame rest m' r' place Uninit a = a ≡ Breaks fault.Uninit

abbrev pub LinesAct : Type 0
LinesAct = (names : List Symbol) (sig : Signature) (input : List ℕ) (place choice : ℕ) (frame : Frame) (l : MeantLine) (rest : List MeantLine) (line : CodeLine)
    (m : Memory) (memory : MeantMemory) (m' : Memory) (r' : Registers) (ran : Ran) → frame.rest ≡ l ∷ rest → IsLine names sig l line →
    IsReached names m memory frame.locals line choice m' r' (reached.Ran ran) → HasActed names m memory frame rest m' r' place ran (act sig input frame memory place choice)
