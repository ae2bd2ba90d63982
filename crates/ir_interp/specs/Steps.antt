-- In which state of which program a machine is, and what a step does to it.
use Rattle.std.specs.Prelude.{◌≡◌, ℕ, List, [], ◌∷◌, length, slice_get, Option, Some, None}
use Rattle.ir_tree.specs.declared.operand.Symbol.{Symbol}
use Rattle.ir_meaning.specs.Fault as fault
use Rattle.ir_meaning.specs.Act.{resume}
use Rattle.ir_meaning.specs.Frame.{Frame as MeantFrame}
use Rattle.ir_meaning.specs.Memory.{Memory as MeantMemory}
use Rattle.ir_meaning.specs.Program.{Broken, Done, Next, On, Program, State, step}
use Rattle.ir_meaning.specs.Run.{start}
use Rattle.ir_meaning.specs.declared.event.Event.{Event}
use Rattle.ir_meaning.specs.declared.event.Event.TheVariants as event
use Rattle.ir_meaning.specs.declared.fault.Place.{Place as MeantPlace}
use Rattle.ir_meaning.specs.declared.value.Value.{Value as MeantValue}
use Rattle.ir_meaning.specs.declared.value.Value.TheVariants.{Number}
use Rattle.ir_machine.specs.Meant.{symbol_at}
use Rattle.ir_machine.specs.Memories.{numbers_of}
use Rattle.ir_machine.specs.Names.{AreDistinct}
use Rattle.ir_machine.specs.declared.scalar.Scalar.{Scalar}
use Rattle.ir_interp.specs.Locals.{IsMemory}
use Rattle.ir_interp.specs.Code.{IsCode, Knows, function_of}
use Rattle.ir_interp.specs.Frames.{IsFrame, Stacks, Wait}
use Rattle.ir_interp.specs.Scenes.{Has, IsQuiet, IsValidAnswer, Shown, answer_meant, behind, events_of, heard}
use Rattle.ir_interp.specs.declared.code.Code.{Code}
use Rattle.ir_interp.specs.declared.code.Function.{Function}
use Rattle.ir_interp.specs.declared.step_end.StepPlace.{StepPlace}
use Rattle.ir_interp.specs.declared.step_end.StepEnd.{StepEnd}
use Rattle.ir_interp.specs.declared.step_end.StepEnd.TheVariants.{Going, Returned, Undefined, Uninit, Wants, Wrote}
use Rattle.ir_interp.specs.declared.machine.Machine.{Machine}

abbrev pub place_meant : List Symbol → StepPlace → MeantPlace
place_meant names at = record { symbol = symbol_at names at.function; instruction = at.instruction }

-- the machine runs on, in this state
pub record IsRunning (names : List Symbol) (p : Program) (m : Machine) (s : State) : Type 0 where
  pub running : m.ended ≡ None
  pub distinct : AreDistinct names
  pub code : IsCode names p m.code.now
  pub knows : Knows names m.code.now m.memory s.memory
  pub holds : IsMemory names m.memory s.memory
  pub top : IsFrame names p m.memory s.memory m.top s.top
  pub front : List ℕ
  pub stacks : Stacks (numbers_of m.memory.blocks.items) m.top s.top front
  pub waits : Wait names p m.memory s.memory front m.below.items s.below

-- a run that is over is told so
abbrev pub IsEnd : List Symbol → StepEnd → Next → Type 0
IsEnd names (Returned answer) (Done answer' memory place) = answer' ≡ answer_meant names answer
IsEnd names (Undefined cause at) (Broken failure) = failure ≡ record { why = fault.Undefined cause; at = place_meant names at }
IsEnd names (Uninit at) (Broken failure) = failure ≡ record { why = fault.Uninit; at = place_meant names at }
IsEnd names _ _ = ⊥

-- the machine runs in this state, or its run has ended so
abbrev pub IsAt : List Symbol → Program → Machine → Next → Type 0
IsAt names p m (On s) = IsRunning names p m s
IsAt names p m (Done answer memory place) = (end : StepEnd) × ((m.ended ≡ Some end) × IsEnd names end (Done answer memory place))
IsAt names p m (Broken failure) = (end : StepEnd) × ((m.ended ≡ Some end) × IsEnd names end (Broken failure))

-- for each input that has at the state's place what is given, the step shows this and leads there
abbrev pub Leads : Program → State → ℕ → Option (Option ℕ) → List Event → Next → Type 0
Leads p s choice given events next = (input : List ℕ) → Has input s.place given → step p input s choice ≡ record { events = events; next = next }

-- whatever the input and the free choice, the next step reads a byte
abbrev pub WantsByte : Program → State → Type 0
WantsByte p s = (input : List ℕ) (choice : ℕ) → (next : State) × (step p input s choice ≡ record { events = heard (slice_get input s.place) ∷ []; next = On next })

-- a step from a state, and the machine behind it
abbrev pub IsStep : List Symbol → Program → State → ℕ → Option (Option ℕ) → Machine → StepEnd → Type 0
IsStep names p s choice given m Going = (shown : Shown) × ((next : State) × (IsQuiet given shown × (next.place ≡ behind shown s.place) × Leads p s choice given (events_of shown) (On next) × IsRunning names p m next))
IsStep names p s choice given m Wants = (given ≡ None) × WantsByte p s × IsRunning names p m s
IsStep names p s choice given m (Wrote byte) = (next : State) × ((next.place ≡ s.place) × Leads p s choice given (event.Wrote byte ∷ []) (On next) × IsRunning names p m next)
IsStep names p s choice given m end = (next : Next) × (Leads p s choice given [] next × IsEnd names end next × IsAt names p m next)

-- a step of a run; one that is over is told again, and stays so
abbrev pub IsStepped : List Symbol → Program → Next → ℕ → Option (Option ℕ) → Machine → StepEnd → Type 0
IsStepped names p (On s) choice given m end = IsStep names p s choice given m end
IsStepped names p (Done answer memory place) choice given m end = IsEnd names end (Done answer memory place) × IsAt names p m (Done answer memory place)
IsStepped names p (Broken failure) choice given m end = IsEnd names end (Broken failure) × IsAt names p m (Broken failure)

-- a function that is defined takes so many arguments
abbrev pub CanBegin : Code → ℕ → ℕ → Type 0
CanBegin code root n = (f : Function) × ((function_of code root ≡ Some f) × (length f.params.items ≡ n))

abbrev pub numbers_meant : List ℕ → List MeantValue
numbers_meant [] = []
numbers_meant (n ∷ ns) = Number n ∷ numbers_meant ns

-- the machine is in the state in which a run of this function begins
abbrev pub HasBegun : List Symbol → Program → ℕ → List ℕ → Machine → Type 0
HasBegun names p root arguments m = (s : State) × ((start p (symbol_at names root) (numbers_meant arguments) ≡ Some s) × IsAt names p m (On s))

-- the frame that waited goes on
pub record Resumed (names : List Symbol) (p : Program) (memory : MeantMemory) (numbers : List ℕ) (d : MeantFrame) (ds : List MeantFrame) (answer : Option Scalar) (m m' : Machine) (end : StepEnd) : Type 0 where
  pub going : end ≡ Going
  pub top : IsFrame names p m.memory memory m'.top (resume d (answer_meant names answer))
  pub front : List ℕ
  pub stacks : Stacks numbers m'.top (resume d (answer_meant names answer)) front
  pub waits : Wait names p m.memory memory front m'.below.items ds
  pub same : m'.memory ≡ m.memory
  pub ended : m'.ended ≡ m.ended

-- where a frame waits, it goes on
abbrev pub WentBack : List Symbol → Program → MeantMemory → List ℕ → MeantFrame → List MeantFrame → Option Scalar → Machine → Machine → StepEnd → Type 0
WentBack names p memory numbers d ds answer m m' end =
    Wait names p m.memory memory numbers m.below.items (d ∷ ds) → IsValidAnswer names m.memory memory answer → Resumed names p memory numbers d ds answer m m' end
