-- Runs: the observable behaviour of a program, the bytes read and written and the ending.
use Rattle.std.specs.Prelude.{ℕ, suc, List, [], ◌∷◌, ◌++◌, Option, Some, None}
use Rattle.ir_tree.specs.declared.function.Function.{Function}
use Rattle.ir_tree.specs.declared.operand.Symbol.{Symbol}
use Rattle.ir_meaning.specs.Act.{enter}
use Rattle.ir_meaning.specs.Memory.{Memory}
use Rattle.ir_meaning.specs.Program.{Broken, Done, Failure, Next, On, Program, State, step}
use Rattle.ir_meaning.specs.declared.event.Event.{Event}
use Rattle.ir_meaning.specs.declared.value.Value.{Value}

-- how far a run has come
pub data Ending : Type 0 where
  Running : Ending
  Returned : (answer : Option Value) → Ending
  Failed : (failure : Failure) → Ending

-- a run: the steps taken, what it showed, and its ending
pub record Ran : Type 0 where
  pub steps : ℕ
  pub trace : List Event
  pub ending : Ending

abbrev pub run_on : (State → Ran) → List Event → Next → Ran
run_on go shown (On s) = record { steps = suc (go s).steps; trace = shown ++ (go s).trace; ending = (go s).ending }
run_on go shown (Done answer memory place) = record { steps = 1; trace = shown; ending = Returned answer }
run_on go shown (Broken failure) = record { steps = 1; trace = shown; ending = Failed failure }

-- the run with these answers to free choices, one step for each, or to the end if that comes earlier
abbrev pub run : Program → List ℕ → List ℕ → State → Ran
run p input [] s = record { steps = 0; trace = []; ending = Running }
run p input (choice ∷ choices) s = run_on (run p input choices) (step p input s choice).events (step p input s choice).next

abbrev pub start_of : Option Function → List Value → Memory → Option State
start_of None arguments memory = None
start_of (Some f) arguments memory = Some (record { top = enter f arguments; below = []; memory = memory; place = 0 })

-- the state in which a run of this function begins
abbrev pub start : Program → Symbol → List Value → Option State
start p root arguments = start_of (p.code root) arguments p.opening
