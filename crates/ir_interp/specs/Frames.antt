-- Frames of the machine against frames of the definition.
use Rattle.std.specs.Prelude.{◌≡◌, ◌≢◌, ℕ, ◌<◌, ◌≤◌, List, [], ◌∷◌, ◌++◌, drop, length, slice_get, Option, Some, None}
use Rattle.ir_tree.specs.declared.block.Block.{Block as MeantBlock}
use Rattle.ir_tree.specs.declared.function.Function.{Function as MeantFunction}
use Rattle.ir_tree.specs.declared.operand.Symbol.{Symbol}
use Rattle.ir_meaning.specs.Act.{enter}
use Rattle.ir_meaning.specs.Frame.{Frame as MeantFrame}
use Rattle.ir_meaning.specs.Memory.{Memory as MeantMemory}
use Rattle.ir_meaning.specs.Program.{Program}
use Rattle.ir_meaning.specs.declared.value.Value.{Value as MeantValue}
use Rattle.ir_machine.specs.Meant.{symbol_at}
use Rattle.ir_machine.specs.declared.memory.Memory.{Memory}
use Rattle.ir_interp.specs.Locals.{AreLocals}
use Rattle.ir_interp.specs.Ran.{HasRoom}
use Rattle.ir_interp.specs.Slots.{AreLast}
use Rattle.ir_interp.specs.Code.{position}
use Rattle.ir_interp.specs.declared.frame.Frame.{Frame}

-- where in a function a frame is: in the first block of its number, with so many lines done
pub record IsStanding (blocks : List MeantBlock) (d : MeantFrame) (position' line : ℕ) : Type 0 where
  pub block : MeantBlock
  pub here : slice_get blocks position' ≡ Some block
  pub first : position blocks block.number ≡ position'
  pub number : d.block ≡ block.number
  pub ends : d.end ≡ block.end
  pub rest : d.rest ≡ drop line block.lines
  pub within : line ≤ length block.lines

-- a frame stands for one of the definition
pub record IsFrame (names : List Symbol) (p : Program) (m : Memory) (memory : MeantMemory) (f : Frame) (d : MeantFrame) : Type 0 where
  pub named : f.function < length names
  pub called : p.code (symbol_at names f.function) ≡ Some d.function
  pub stands : IsStanding d.function.blocks d f.block f.line
  pub reads : AreLocals names m memory f.registers d.locals
  pub awaits : f.awaits ≡ d.awaits

-- of the blocks that live the last ones are the frame's slots, the others, in front, are as many as lived when it began
pub record Stacks (numbers : List ℕ) (f : Frame) (d : MeantFrame) (front : List ℕ) : Type 0 where
  pub last : AreLast numbers d.slots front
  pub base : length front ≡ f.base

-- a frame that waits for an answer, for which there is room
pub record IsWaiting (names : List Symbol) (p : Program) (m : Memory) (memory : MeantMemory) (numbers : List ℕ) (f : Frame) (d : MeantFrame) (front : List ℕ) : Type 0 where
  pub frame : IsFrame names p m memory f d
  pub room : HasRoom f.registers f.awaits
  pub stacks : Stacks numbers f d front

-- frames wait below the topmost one, the first that will go on last
abbrev pub Wait : List Symbol → Program → Memory → MeantMemory → List ℕ → List Frame → List MeantFrame → Type 0
Wait names p m memory numbers fs [] = fs ≡ []
Wait names p m memory numbers fs (d ∷ ds) =
    (f : Frame) × ((rest : List Frame) × ((front : List ℕ) × ((fs ≡ rest ++ f ∷ []) × IsWaiting names p m memory numbers f d front × Wait names p m memory front rest ds)))

-- the frame of a call: none where the program has no function of this symbol of the table that takes so many arguments
abbrev pub IsOpened : List Symbol → Program → Memory → MeantMemory → ℕ → List MeantValue → ℕ → Option Frame → Type 0
IsOpened names p m memory i values base None = (f : MeantFunction) → i < length names → p.code (symbol_at names i) ≡ Some f → length f.params ≢ length values
IsOpened names p m memory i values base (Some frame) =
    (f : MeantFunction) × ((p.code (symbol_at names i) ≡ Some f) × IsFrame names p m memory frame (enter f values) × (frame.base ≡ base))
