-- What the topmost frame does in a step, against the definition's `act`.
use Rattle.std.specs.Prelude.{◌≡◌, ℕ, suc, Bool, true, false, List, [], ◌∷◌, length, slice_get, Option, Some, None}
use Rattle.ir_tree.specs.declared.function.Function.{Function as MeantFunction}
use Rattle.ir_tree.specs.declared.instr.Line.{Line as MeantLine}
use Rattle.ir_tree.specs.declared.operand.Reg.{Reg}
use Rattle.ir_tree.specs.declared.operand.Symbol.{Symbol}
use Rattle.ir_meaning.specs.Act.{Act, Breaks, Calls, Gives, Goes, act, apply, enter, jumps}
use Rattle.ir_meaning.specs.Execute.{Effect, gets_char}
use Rattle.ir_meaning.specs.Fault.{Fault}
use Rattle.ir_meaning.specs.Fault as fault
use Rattle.ir_meaning.specs.Frame.{AFunction, Frame as MeantFrame, bind}
use Rattle.ir_meaning.specs.Memory.{Memory as MeantMemory}
use Rattle.ir_meaning.specs.Program as program
use Rattle.ir_meaning.specs.Program.{Program, advance}
use Rattle.ir_meaning.specs.declared.event.Event.{Event}
use Rattle.ir_meaning.specs.declared.event.Event.TheVariants.{ReadByte, ReadEnd, Wrote}
use Rattle.ir_tree.specs.declared.cause.Cause.TheVariants.{UnreachableReached}
use Rattle.ir_meaning.specs.declared.fault.Place.{Place as MeantPlace}
use Rattle.ir_meaning.specs.declared.value.Value.{Value as MeantValue}
use Rattle.ir_meaning.specs.declared.value.Value.TheVariants.{Number}
use Rattle.ir_machine.specs.Meant.{meant}
use Rattle.ir_machine.specs.Memories.{KeepsHandles, numbers_of}
use Rattle.ir_machine.specs.Names.{AreDistinct}
use Rattle.ir_machine.specs.declared.memory.Memory.{Memory}
use Rattle.ir_machine.specs.declared.scalar.Scalar.{Scalar}
use Rattle.ir_interp.specs.Locals.{IsMemory, IsValid}
use Rattle.ir_interp.specs.Ran.{HasRoom}
use Rattle.ir_interp.specs.Tasks.{IsTaskKnown}
use Rattle.ir_interp.specs.Lines.{IsLine}
use Rattle.ir_interp.specs.declared.line.CodeLine.{CodeLine}
use Rattle.ir_interp.specs.Code.{IsCode, Knows}
use Rattle.ir_interp.specs.Frames.{IsFrame, Stacks}
use Rattle.ir_interp.specs.declared.code.Code.{Code}
use Rattle.ir_interp.specs.declared.frame.Did.{Did}
use Rattle.ir_interp.specs.declared.frame.Did.TheVariants as did
use Rattle.ir_interp.specs.declared.frame.Frame.{Frame}

-- a frame of the definition in its program and memory; in front of its slots stand these blocks
pub record Scene : Type 0 where
  pub names : List Symbol
  pub program : Program
  pub memory : MeantMemory
  pub frame : MeantFrame
  pub front : List ℕ

-- code, memory and frame of the machine are in this scene
pub record Plays (z : Scene) (c : Code) (m : Memory) (f : Frame) : Type 0 where
  pub distinct : AreDistinct z.names
  pub code : IsCode z.names z.program c
  pub knows : Knows z.names c m z.memory
  pub holds : IsMemory z.names m z.memory
  pub frame : IsFrame z.names z.program m z.memory f z.frame
  pub stacks : Stacks (numbers_of m.blocks.items) f z.frame z.front

-- what the input has at a place: nothing is said, or it ends there, or a byte
abbrev pub Has : List ℕ → ℕ → Option (Option ℕ) → Type 0
Has input place None = Unit {0}
Has input place (Some byte) = slice_get input place ≡ byte

-- what a step shows
pub data Shown : Type 0 where
  Silent : Shown
  Heard : (byte : Option ℕ) → Shown
  Said : (byte : ℕ) → Shown

-- the event of a `getchar`
abbrev pub heard : Option ℕ → Event
heard None = ReadEnd
heard (Some byte) = ReadByte byte

abbrev pub events_of : Shown → List Event
events_of Silent = []
events_of (Heard byte) = heard byte ∷ []
events_of (Said byte) = Wrote byte ∷ []

-- the place in the input behind it
abbrev pub behind : Shown → ℕ → ℕ
behind (Heard (Some byte)) place = suc place
behind _ place = place

-- nothing is shown, or that what was given was read
abbrev pub IsQuiet : Option (Option ℕ) → Shown → Type 0
IsQuiet given Silent = Unit {0}
IsQuiet given (Heard byte) = given ≡ Some byte
IsQuiet given (Said byte) = ⊥

-- what the frame does, at each place of each input that has there what is given
abbrev pub Acts : Scene → ℕ → Option (Option ℕ) → (ℕ → Act) → Type 0
Acts z choice given a = (input : List ℕ) (place : ℕ) → Has input place given → act z.program.signature input z.frame z.memory place choice ≡ a place

-- the run breaks here
abbrev pub Fails : Scene → ℕ → Option (Option ℕ) → Fault → Type 0
Fails z choice given why = (input : List ℕ) (place : ℕ) → Has input place given → (at : MeantPlace) (below : List MeantFrame) →
    advance z.program at below z.memory place (act z.program.signature input z.frame z.memory place choice) ≡ record { events = []; next = program.Broken (record { why = why; at = at }) }

-- the next step reads a byte
abbrev pub Asks : Scene → Type 0
Asks z = (input : List ℕ) (place choice : ℕ) → (frame : MeantFrame) × ((memory : MeantMemory) × ((place' : ℕ) × (act z.program.signature input z.frame z.memory place choice ≡ Goes frame memory place' (heard (slice_get input place) ∷ []))))

-- it goes on with this frame and this memory
pub record GoesOn (z : Scene) (m m' : Memory) (f' : Frame) (memory' : MeantMemory) (d' : MeantFrame) : Type 0 where
  pub holds : IsMemory z.names m' memory'
  pub keeps : KeepsHandles m z.memory m' memory'
  pub frame : IsFrame z.names z.program m' memory' f' d'
  pub stacks : Stacks (numbers_of m'.blocks.items) f' d' z.front

-- the frame is where it was
pub record StaysAt (f f' : Frame) : Type 0 where
  pub function : f'.function ≡ f.function
  pub block : f'.block ≡ f.block
  pub line : f'.line ≡ f.line
  pub base : f'.base ≡ f.base

abbrev pub answer_meant : List Symbol → Option Scalar → Option MeantValue
answer_meant names None = None
answer_meant names (Some v) = Some (meant names v)

abbrev pub IsValidAnswer : List Symbol → Memory → MeantMemory → Option Scalar → Type 0
IsValidAnswer names m memory None = Unit {0}
IsValidAnswer names m memory (Some v) = IsValid names m memory v

-- it called a function, and waits as this frame
pub record Enters (z : Scene) (choice : ℕ) (given : Option (Option ℕ)) (m m' : Memory) (f' callee : Frame) : Type 0 where
  pub symbol : Symbol
  pub values : List MeantValue
  pub waiting : MeantFrame
  pub function : MeantFunction
  pub acts : Acts z choice given (λ place. Calls symbol values waiting)
  pub called : z.program.code symbol ≡ Some function
  pub goes : GoesOn z m m' f' z.memory waiting
  pub room : HasRoom f'.registers f'.awaits
  pub frame : IsFrame z.names z.program m' z.memory callee (enter function values)
  pub base : callee.base ≡ length (numbers_of m'.blocks.items)

-- it returned, and its slots are dead
pub record Returns (z : Scene) (choice : ℕ) (given : Option (Option ℕ)) (m m' : Memory) (answer : Option Scalar) : Type 0 where
  pub after : MeantMemory
  pub acts : Acts z choice given (λ place. Gives (answer_meant z.names answer) after)
  pub holds : IsMemory z.names m' after
  pub keeps : KeepsHandles m z.memory m' after
  pub numbers : numbers_of m'.blocks.items ≡ z.front
  pub valid : IsValidAnswer z.names m' after answer

-- what the frame did is what the definition's does
abbrev pub HasDone : Scene → ℕ → Option (Option ℕ) → Memory → Memory → Frame → Frame → Did → Type 0
HasDone z choice given m m' f f' did.Went =
    (shown : Shown) × ((memory : MeantMemory) × ((frame : MeantFrame) × (IsQuiet given shown × Acts z choice given (λ place. Goes frame memory (behind shown place) (events_of shown)) × GoesOn z m m' f' memory frame)))
HasDone z choice given m m' f f' (did.Wrote byte) =
    (memory : MeantMemory) × ((frame : MeantFrame) × (Acts z choice given (λ place. Goes frame memory place (Wrote byte ∷ [])) × GoesOn z m m' f' memory frame))
HasDone z choice given m m' f f' did.Wants = (given ≡ None) × Asks z × GoesOn z m m' f' z.memory z.frame
HasDone z choice given m m' f f' (did.Enters callee) = Enters z choice given m m' f' callee
HasDone z choice given m m' f f' (did.Gives answer) = Returns z choice given m m' answer
HasDone z choice given m m' f f' (did.Undefined cause) = Fails z choice given (fault.Undefined cause) × StaysAt f f'
HasDone z choice given m m' f f' did.Uninit = Fails z choice given fault.Uninit × StaysAt f f'

-- where such a block is, it goes there; the phis are taken
abbrev pub HasJumped : Scene → Memory → Frame → Frame → ℕ → Bool → Type 0
HasJumped z m f f' target true =
    (frame : MeantFrame) × (((place : ℕ) → jumps z.program.signature z.frame z.memory place target ≡ Goes frame z.memory place []) × GoesOn z m m f' z.memory frame)
HasJumped z m f f' target false =
    ((place : ℕ) → jumps z.program.signature z.frame z.memory place target ≡ Breaks (fault.Undefined UnreachableReached)) × StaysAt f f'

-- ---- lines

-- the next line of the frame, and what it is in the code
pub record IsNext (z : Scene) (m : Memory) (line : CodeLine) (l : MeantLine) (rest : List MeantLine) : Type 0 where
  pub next : z.frame.rest ≡ l ∷ rest
  pub is : IsLine z.names z.program.signature l line
  pub known : IsTaskKnown z.names m z.memory line.task

-- the next line has this effect, and its result goes to this local
abbrev pub Works : Scene → ℕ → Option (Option ℕ) → Option ℕ → List MeantLine → (ℕ → Effect) → Type 0
Works z choice given local rest effect =
    (input : List ℕ) (place : ℕ) → Has input place given → act z.program.signature input z.frame z.memory place choice ≡ apply (record z.frame { rest = rest }) local (effect place)

-- the next line asks for a byte
abbrev pub Hears : Scene → Option ℕ → List MeantLine → Type 0
Hears z local rest =
    (input : List ℕ) (place choice : ℕ) → act z.program.signature input z.frame z.memory place choice ≡ apply (record z.frame { rest = rest }) local (gets_char z.memory place (slice_get input place))

-- the frame behind a line that gave a number
abbrev pub with_result : MeantFrame → List MeantLine → Option ℕ → ℕ → MeantFrame
with_result d rest local n = record d { rest = rest; locals = bind local (Some (Number n)) d.locals }

-- a symbol is a function of so many parameters
abbrev pub TakesSo : Program → Symbol → ℕ → Type 0
TakesSo p s n = (params : List Reg) × ((result : Option Reg) × ((p.signature.kind s ≡ AFunction params result) × (length params ≡ n)))
