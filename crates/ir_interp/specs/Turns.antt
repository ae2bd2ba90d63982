-- One step of a run with its input, and a turn, which sends what the step wrote.
use Rattle.std.specs.Prelude.{◌≡◌, ℕ, ◌+◌, List, [], ◌∷◌, drop, Option, Some, None}
use Rattle.std.specs.Io.KnownBytes.{Appends}
use Rattle.ir_tree.specs.declared.operand.Symbol.{Symbol}
use Rattle.ir_meaning.specs.Program.{Next, On, Program, State, step}
use Rattle.ir_meaning.specs.declared.event.Event.{Event}
use Rattle.ir_meaning.specs.declared.event.Event.TheVariants as event
use Rattle.ir_interp.specs.Steps.{IsEnd, IsRunning}
use Rattle.ir_interp.specs.declared.step_end.StepEnd.{StepEnd}
use Rattle.ir_interp.specs.declared.step_end.StepEnd.TheVariants as step_end
use Rattle.ir_interp.specs.declared.machine.Machine.{Machine}
use Rattle.ir_interp.specs.Runs.{Agree, HasLeft, bytes_read, reads, written}
use Rattle.ir_interp.specs.declared.end.RunEnd.{RunEnd}
use Rattle.ir_interp.specs.declared.end.RunEnd.TheVariants.{Returned, Undefined, Uninit}
use Rattle.ir_interp.specs.declared.end.RunFault.{RunFault}

-- ---- steps

-- over this input the step shows these events and leads there
abbrev pub Shows : Program → State → List ℕ → List Event → Next → Type 0
Shows p s input events next = step p input s 0 ≡ record { events = events; next = next }

-- a step that goes on and shows these events: the state and the machine behind it, and over which inputs it does so
pub record GoesOn (names : List Symbol) (p : Program) (s : State) (left left' : Option (List ℕ)) (m : Machine) (events : List Event) : Type 0 where
  pub next : State
  pub runs : IsRunning names p m next
  pub place : next.place ≡ s.place + bytes_read events
  pub input : List ℕ
  pub takes : Shows p s input events (On next)
  -- all that answer its read so
  pub over : (bytes : List ℕ) → Agree (reads (step p bytes s 0).events) (reads events) → Shows p s bytes events (On next)
  -- the bytes that were told, which are told behind it too
  pub told : (bytes : List ℕ) → left ≡ Some (drop s.place bytes) → Shows p s bytes events (On next) × (left' ≡ Some (drop next.place bytes))

-- a step that ends the run, over each input
pub record Ends (names : List Symbol) (p : Program) (s : State) (left left' : Option (List ℕ)) (end : StepEnd) : Type 0 where
  pub next : Next
  pub takes : (input : List ℕ) → Shows p s input [] next
  pub is : IsEnd names end next
  pub stays : left' ≡ left

-- a step that was given what it asked for
abbrev pub HasAdvanced : List Symbol → Program → State → Option (List ℕ) → Option (List ℕ) → Machine → StepEnd → Type 0
HasAdvanced names p s left left' m step_end.Going = (events : List Event) × ((written events ≡ []) × GoesOn names p s left left' m events)
HasAdvanced names p s left left' m step_end.Wants = ⊥
HasAdvanced names p s left left' m (step_end.Wrote byte) = GoesOn names p s left left' m (event.Wrote byte ∷ [])
HasAdvanced names p s left left' m end = Ends names p s left left' end

-- a step that wasn't done: what is left of the bytes that were told
abbrev pub Leaves : Machine → Option (List ℕ) → Option (List ℕ) → RunFault → Type 0
Leaves m left left' why = (names : List Symbol) (p : Program) (s : State) (bytes : List ℕ) → IsRunning names p m s → left ≡ Some (drop s.place bytes) → HasLeft p s bytes 0 left' why

-- ---- turns

-- how a run ends whose last step came to this
abbrev pub IsLast : StepEnd → RunEnd → Type 0
IsLast (step_end.Returned answer) end = end ≡ Returned answer
IsLast (step_end.Undefined cause at) end = end ≡ Undefined cause at
IsLast (step_end.Uninit at) end = end ≡ Uninit at
IsLast _ end = ⊥

-- a turn of a run: a step with its input, and what it wrote was sent; none where the run goes on
abbrev pub HasTurned : List Symbol → Program → State → Option (List ℕ) → Option (List ℕ) → Option (List ℕ) → Option (List ℕ) → Machine → Option RunEnd → Type 0
HasTurned names p s left left' sent sent' m None = (events : List Event) × (GoesOn names p s left left' m events × Appends sent sent' (written events))
HasTurned names p s left left' sent sent' m (Some end) = (last : StepEnd) × (IsLast last end × Ends names p s left left' last × (sent' ≡ sent))
