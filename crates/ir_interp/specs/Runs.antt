-- Runs with their input and output, against the definition's runs with all free choices 0.
use Rattle.std.specs.Prelude.{◌≡◌, ◌<◌, ◌⊎◌, ℕ, suc, ◌+◌, List, [], ◌∷◌, length, drop, replicate, Option, Some, None}
use Rattle.std.specs.Io.KnownBytes.{Appends}
use Rattle.ir_tree.specs.declared.operand.Symbol.{Symbol}
use Rattle.ir_meaning.specs.Fault as fault
use Rattle.ir_meaning.specs.Program.{Program, State, step}
use Rattle.ir_meaning.specs.Run as meaning
use Rattle.ir_meaning.specs.Run.{Ran, run, run_on}
use Rattle.ir_meaning.specs.declared.event.Event.{Event}
use Rattle.ir_meaning.specs.declared.event.Event.TheVariants as event
use Rattle.lto_outside.specs.Cause.{Rose}
use Rattle.ir_interp.specs.Scenes.{answer_meant}
use Rattle.ir_interp.specs.Steps.{place_meant}
use Rattle.ir_interp.specs.declared.end.RunEnd.{RunEnd}
use Rattle.ir_interp.specs.declared.end.RunEnd.TheVariants.{OutOfSteps, Returned, Undefined, Uninit}
use Rattle.ir_interp.specs.declared.end.RunFault.{RunFault}
use Rattle.ir_interp.specs.declared.end.RunFault.TheVariants.{In, NoMemory, Out}

-- ---- what a trace shows

-- the bytes that were written
abbrev pub written : List Event → List ℕ
written [] = []
written (event.Wrote byte ∷ es) = byte ∷ written es
written (_ ∷ es) = written es

-- how many bytes were read
abbrev pub bytes_read : List Event → ℕ
bytes_read [] = 0
bytes_read (event.ReadByte byte ∷ es) = suc (bytes_read es)
bytes_read (_ ∷ es) = bytes_read es

-- what the reads gave: a byte each, or none at the end of the input
abbrev pub reads : List Event → List (Option ℕ)
reads [] = []
reads (event.ReadByte byte ∷ es) = Some byte ∷ reads es
reads (event.ReadEnd ∷ es) = None ∷ reads es
reads (event.Wrote byte ∷ es) = reads es

-- where both have an element, it is the same
abbrev pub Agree : List (Option ℕ) → List (Option ℕ) → Type 0
Agree [] ys = Unit {0}
Agree (x ∷ xs) [] = Unit {0}
Agree (x ∷ xs) (y ∷ ys) = (x ≡ y) × Agree xs ys

-- ---- over the bytes that the input told

-- how the definition's run ends
abbrev pub ending_meant : List Symbol → RunEnd → meaning.Ending
ending_meant names (Returned answer) = meaning.Returned (answer_meant names answer)
ending_meant names (Undefined cause at) = meaning.Failed (record { why = fault.Undefined cause; at = place_meant names at })
ending_meant names (Uninit at) = meaning.Failed (record { why = fault.Uninit; at = place_meant names at })
ending_meant names OutOfSteps = meaning.Running

-- the run is the definition's: its ending, what was sent, and what is left
pub record IsRun (names : List Symbol) (ran : Ran) (place : ℕ) (bytes : List ℕ) (left' before after : Option (List ℕ)) (end : RunEnd) : Type 0 where
  pub ending : ran.ending ≡ ending_meant names end
  pub sent : Appends before after (written ran.trace)
  pub left : left' ≡ Some (drop (place + bytes_read ran.trace) bytes)

abbrev pub HasRun : List Symbol → Program → State → List ℕ → ℕ → Option (List ℕ) → Option (List ℕ) → Option (List ℕ) → RunEnd → Type 0
HasRun names p s bytes budget left sent sent' end = IsRun names (run p bytes (replicate budget 0) s) s.place bytes left sent sent' end

-- ---- over any input

-- the run with all choices 0 of which each step has an input of its own
abbrev pub run_each : Program → List (List ℕ) → State → Ran
run_each p [] s = record { steps = 0; trace = []; ending = meaning.Running }
run_each p (input ∷ inputs) s = run_on (run_each p inputs) (step p input s 0).events (step p input s 0).next

-- a run of so many steps over what an input gave, whether it tells that or not; over all bytes that answer the reads so,
-- and over all of which the definition's run reads none, it is the definition's
pub record IsFed (p : Program) (s : State) (steps : ℕ) (ran : Ran) : Type 0 where
  pub inputs : List (List ℕ)
  pub each : length inputs ≡ steps
  pub is : run_each p inputs s ≡ ran
  pub same : (bytes : List ℕ) → Agree (reads (run p bytes (replicate steps 0) s).trace) (reads ran.trace) → run p bytes (replicate steps 0) s ≡ ran

-- the run over what the input gave: its ending, and what was sent
pub record HasFedRun (names : List Symbol) (p : Program) (s : State) (budget : ℕ) (before after : Option (List ℕ)) (end : RunEnd) : Type 0 where
  pub ran : Ran
  pub fed : IsFed p s budget ran
  pub ending : ran.ending ≡ ending_meant names end
  pub sent : Appends before after (written ran.trace)

-- ---- runs that are given up

-- what is left of the bytes behind so many steps
abbrev pub left_behind : Program → State → List ℕ → ℕ → Option (List ℕ)
left_behind p s bytes steps = Some (drop (s.place + bytes_read (run p bytes (replicate steps 0) s).trace) bytes)

-- what is left where the step behind so many wasn't done: where memory was refused to it, the byte that it reads may be
-- taken already
abbrev pub HasLeft : Program → State → List ℕ → ℕ → Option (List ℕ) → RunFault → Type 0
HasLeft p s bytes steps left NoMemory = (left ≡ left_behind p s bytes steps) ⊎ (left ≡ left_behind p s bytes (suc steps))
HasLeft p s bytes steps left In = left ≡ left_behind p s bytes steps
HasLeft p s bytes steps left Out = left ≡ left_behind p s bytes steps

-- what was sent is what the run writes in some number of steps below the budget, and what is left is what these leave
pub record HasSentPart (p : Program) (s : State) (bytes : List ℕ) (budget : ℕ) (why : RunFault) (left' before after : Option (List ℕ)) : Type 0 where
  pub steps : ℕ
  pub within : steps < budget
  pub sent : Appends before after (written (run p bytes (replicate steps 0) s).trace)
  pub left : HasLeft p s bytes steps left' why

-- what was sent is what a run over what the input gave writes in some number of steps below the budget
pub record HasFedPart (p : Program) (s : State) (budget : ℕ) (before after : Option (List ℕ)) : Type 0 where
  pub steps : ℕ
  pub within : steps < budget
  pub ran : Ran
  pub fed : IsFed p s steps ran
  pub sent : Appends before after (written ran.trace)

-- input or output is blamed only where its count of faults rose
abbrev pub IsBlamed : ℕ → ℕ → ℕ → ℕ → RunFault → Type 0
IsBlamed inputs inputs' outputs outputs' In = Rose inputs inputs'
IsBlamed inputs inputs' outputs outputs' Out = Rose outputs outputs'
IsBlamed inputs inputs' outputs outputs' NoMemory = Unit {0}
