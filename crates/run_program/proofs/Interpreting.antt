-- A run of a program, from where it begins to how it is told.
use Rattle.std.proofs.Common.{◌≡◌, ◌∙◌, ◌+◌, ◌⊎◌, ℕ, List, [], drop, replicate, Option, Some, None, IfErr, IfOk, IfSome, OnErr, Result, Ok, Err, ap, sym, subst, inl, inr, arith}
use Rattle.ir_tree.specs.Wholes.{symbols}
use Rattle.ir_tree.specs.declared.function.Function.{Function}
use Rattle.ir_tree.specs.declared.module.GlobalValue.{GlobalValue}
use Rattle.ir_tree.specs.declared.operand.Reg.{Reg}
use Rattle.ir_tree.specs.declared.operand.Symbol.{Symbol}
use Rattle.ir_meaning.specs.Act.{enter}
use Rattle.ir_meaning.specs.Memory.{Memory as MeantMemory}
use Rattle.ir_meaning.specs.Program.{Program, State}
use Rattle.ir_meaning.specs.Run.{Ending, run, start, start_of}
use Rattle.ir_meaning.specs.declared.value.Value.{Value}
use Rattle.ir_machine.specs.Meant.{symbol_at}
use Rattle.ir_interp.specs.Runs.{HasFedPart, HasFedRun, HasRun, HasSentPart, IsBlamed, bytes_read, ending_meant}
use Rattle.ir_interp.specs.declared.end.RunEnd.{RunEnd}
use Rattle.ir_interp.specs.declared.end.RunFault.{RunFault}
use Rattle.ir_interp.specs.declared.end.RunFault.TheVariants as fault
use Rattle.ir_meaning.specs.Programs.{program_of}
use Rattle.ir_tree.specs.declared.cause.Cause.{Cause}
use Rattle.lto_fault.specs.declared.refusal.Refusal.{Refusal}
use Rattle.lto_fault.specs.declared.refusal.Refusal.TheVariants.{Undefined, Uninit}
use Rattle.lto_fault.specs.declared.returned.Returned as line
use Rattle.lto_words.specs.declared.list.Decimal.{Decimal}
use Rattle.ir_interp.specs.Steps.{HasBegun, IsRunning, numbers_meant}
use Rattle.ir_interp.specs.declared.machine.Machine.{Machine}
use Rattle.run_program.specs.Said.{IsTold}
use Rattle.run_program.specs.Causes.{Because, Causes, Comes, never}
use Rattle.run_program.specs.Endings.{IsSaid, Unbegun, given_up}
use Rattle.run_program.specs.Runs.{EndsSo, GaveUp, ReturnsSo, RunEnds, StopsSo, run_causes}
use Rattle.run_program.specs.Streams.{INPUT, OUTPUT, Streams}
use Rattle.run_program.specs.Said.{answer_said, ending_refusal}
use Rattle.run_program.specs.Starting.{beginning, result_of, root_of}
use Rattle.run_program.specs.declared.streams.StreamNames.{StreamNames}
use Rattle.run_program.proofs.Causes.{because_map}
use Rattle.run_program.proofs.Lists.{none_dropped}
use Rattle.run_program.proofs.Mapping.{if_some_map}

-- ---- where it failed

-- what tells an ending, unless memory runs out
abbrev pub Telling : Option Refusal → Causes
Telling ending = record never { unreturned = λ w. ending ≡ Some w; memory = Unit {0} }

pub tells_undefined : (function file : List ℕ) (instruction : ℕ) (cause : Cause) (ending : Option Refusal) → ending ≡ Some (Undefined function file instruction cause) → (why : Refusal) → IsTold (Undefined function file instruction cause) why → Because (Telling ending) why
tells_undefined function file instruction cause ending e why (inl same) = subst (λ (w : Refusal). Because (Telling ending) w) (sym same) e
tells_undefined function file instruction cause ending e why (inr lacking) = subst (λ (w : Refusal). Because (Telling ending) w) (sym lacking) tt

pub tells_uninit : (function file : List ℕ) (instruction : ℕ) (ending : Option Refusal) → ending ≡ Some (Uninit function file instruction) → (why : Refusal) → IsTold (Uninit function file instruction) why → Because (Telling ending) why
tells_uninit function file instruction ending e why (inl same) = subst (λ (w : Refusal). Because (Telling ending) w) (sym same) e
tells_uninit function file instruction ending e why (inr lacking) = subst (λ (w : Refusal). Because (Telling ending) w) (sym lacking) tt

-- ---- from its first state on

pub runs_first : (names : List Symbol) (p : Program) (root : ℕ) (arguments : List ℕ) (m : Machine) → HasBegun names p root arguments m → (first : State) → start p (symbol_at names root) (numbers_meant arguments) ≡ Some first
    → IsRunning names p m first
runs_first names p root arguments m (s, (is, runs)) first e =
    let both : Some s ≡ Some first = sym is ∙ e in
    let same : s ≡ first = cc both in
    subst (λ (x : State). IsRunning names p m x) same runs

abbrev state_of : Function → List Value → MeantMemory → State
state_of f vs memory = record { top = enter f vs; below = []; memory = memory; place = 0 }

pub begins_at_zero : (o : Option Function) (vs : List Value) (memory : MeantMemory) (first : State) → start_of o vs memory ≡ Some first → first.place ≡ 0
begins_at_zero None vs memory first e = absurd (cc e)
begins_at_zero (Some f) vs memory first e =
    let both : Some (state_of f vs memory) ≡ Some first = e in
    let same : state_of f vs memory ≡ first = cc both in
    ap (λ (s : State). s.place) (sym same)

-- where the input tells what it has, that is what is left at its first state
pub over_input : (P : List ℕ → Type 0) (told : Option (List ℕ)) (first : State) → first.place ≡ 0 → ((bytes : List ℕ) → told ≡ Some (drop first.place bytes) → P bytes) → IfSome told P
over_input P None first at f = tt
over_input P (Some bytes) first at f = f bytes (ap (λ (l : List ℕ). Some l) (sym (none_dropped bytes)) ∙ ap (λ (n : ℕ). Some (drop n bytes)) (sym at))

-- the machine's run from where it begins
module _ (gs : List GlobalValue) (root : ℕ) (numbers : List ℕ) (m : Machine) (begun : HasBegun (symbols gs) (program_of gs) root numbers m) (budget steps : ℕ) (all : budget ≡ steps) (t : Streams) where
  begun_at : (first : State) → start (program_of gs) (symbol_at (symbols gs) root) (numbers_meant numbers) ≡ Some first → first.place ≡ 0
  begun_at first begins = begins_at_zero ((program_of gs).code (symbol_at (symbols gs) root)) (numbers_meant numbers) (program_of gs).opening first begins

  begun_runs : (first : State) → start (program_of gs) (symbol_at (symbols gs) root) (numbers_meant numbers) ≡ Some first → IsRunning (symbols gs) (program_of gs) m first
  begun_runs first begins = runs_first (symbols gs) (program_of gs) root numbers m begun first begins

  pub begun_ran : (r : Result RunEnd RunFault)
      → IfOk r (λ end. (names : List Symbol) (p : Program) (s : State) (bytes : List ℕ) → IsRunning names p m s → t.input.told ≡ Some (drop s.place bytes)
      → HasRun names p s bytes budget t.input.told_now t.out.told t.out.told_now end)
      → IfOk r (λ end. (first : State) → start (program_of gs) (symbol_at (symbols gs) root) (numbers_meant numbers) ≡ Some first
      → IfSome t.input.told (λ bytes. HasRun (symbols gs) (program_of gs) first bytes steps t.input.told_now t.out.told t.out.told_now end))
  begun_ran (Ok end) ran = λ first begins.
      over_input (λ (bytes : List ℕ). HasRun (symbols gs) (program_of gs) first bytes steps t.input.told_now t.out.told t.out.told_now end) t.input.told first (begun_at first begins)
      (λ bytes here. subst (λ (n : ℕ). HasRun (symbols gs) (program_of gs) first bytes n t.input.told_now t.out.told t.out.told_now end) all (ran (symbols gs) (program_of gs) first bytes (begun_runs first begins) here))
  begun_ran (Err e) ran = tt

  pub begun_fed : (r : Result RunEnd RunFault)
      → IfOk r (λ end. (names : List Symbol) (p : Program) (s : State) → IsRunning names p m s → HasFedRun names p s budget t.out.told t.out.told_now end)
      → IfOk r (λ end. (first : State) → start (program_of gs) (symbol_at (symbols gs) root) (numbers_meant numbers) ≡ Some first → HasFedRun (symbols gs) (program_of gs) first steps t.out.told t.out.told_now end)
  begun_fed (Ok end) fed = λ first begins.
      subst (λ (n : ℕ). HasFedRun (symbols gs) (program_of gs) first n t.out.told t.out.told_now end) all (fed (symbols gs) (program_of gs) first (begun_runs first begins))
  begun_fed (Err e) fed = tt

  pub begun_stops : (r : Result RunEnd RunFault)
      → IfErr r (λ why. (names : List Symbol) (p : Program) (s : State) (bytes : List ℕ) → IsRunning names p m s → t.input.told ≡ Some (drop s.place bytes)
      → HasSentPart p s bytes budget why t.input.told_now t.out.told t.out.told_now)
      → OnErr r ((names : List Symbol) (p : Program) (s : State) → IsRunning names p m s → HasFedPart p s budget t.out.told t.out.told_now)
      → IfErr r (λ why. Unbegun why t ⊎ ((first : State) → start (program_of gs) (symbol_at (symbols gs) root) (numbers_meant numbers) ≡ Some first → StopsSo (program_of gs) first steps t why))
  begun_stops (Ok end) part fed = tt
  begun_stops (Err why) part fed = inr (λ first begins. record {
    fed = subst (λ (n : ℕ). HasFedPart (program_of gs) first n t.out.told t.out.told_now) all (fed (symbols gs) (program_of gs) first (begun_runs first begins));
    over =
        over_input (λ (bytes : List ℕ). HasSentPart (program_of gs) first bytes steps why t.input.told_now t.out.told t.out.told_now) t.input.told first (begun_at first begins)
        (λ bytes here. subst (λ (n : ℕ). HasSentPart (program_of gs) first bytes n why t.input.told_now t.out.told t.out.told_now) all (part (symbols gs) (program_of gs) first bytes (begun_runs first begins) here));
  })

-- ---- to its end

pub given_because : (p : Program) (root : List ℕ) (args : List Decimal) (file : Symbol → List ℕ) (steps : ℕ) (t : Streams) (streams : StreamNames) (f : RunFault) → streams.input ≡ INPUT → streams.output ≡ OUTPUT
    → IsBlamed t.input.faults t.input.faults_now t.out.faults t.out.faults_now f → Unbegun f t ⊎ GaveUp p root args steps t f → Because (run_causes p root args file steps t) (given_up streams f)
given_because p root args file steps t streams fault.In input output blamed (inl none) = absurd (cc none.0)
given_because p root args file steps t streams fault.In input output blamed (inr gave) = record { named = input; rose = blamed; gave_up = gave }
given_because p root args file steps t streams fault.Out input output blamed (inl none) = absurd (cc none.0)
given_because p root args file steps t streams fault.Out input output blamed (inr gave) = record { named = output; rose = blamed; gave_up = gave }
given_because p root args file steps t streams fault.NoMemory input output blamed (inl none) = inl none.1
given_because p root args file steps t streams fault.NoMemory input output blamed (inr gave) = inr (inl gave)

-- what was given up from a state on, in which it begins
pub gave_up_so : (p : Program) (root : List ℕ) (args : List Decimal) (steps : ℕ) (t : Streams) (f : RunFault) (first : State) (Starts : State → Type 0) → beginning p root args ≡ Some first → Starts first
    → Unbegun f t ⊎ ((s : State) → Starts s → StopsSo p s steps t f) → Unbegun f t ⊎ GaveUp p root args steps t f
gave_up_so p root args steps t f first Starts begins starts (inl none) = inl none
gave_up_so p root args steps t f first Starts begins starts (inr stops) = inr (record { first = first; begins = begins; stops = stops first starts })

from_zero : (m n : ℕ) → m ≡ 0 → m + n ≡ n
from_zero m n e = omega (arith, e)

module _ (p : Program) (root : List ℕ) (args : List Decimal) (steps : ℕ) (t : Streams) (first : State) (begins : beginning p root args ≡ Some first) (at : first.place ≡ 0)
    (names : List Symbol) (end : RunEnd) (ran : IfSome t.input.told (λ bytes. HasRun names p first bytes steps t.input.told_now t.out.told t.out.told_now end))
    (fed_run : HasFedRun names p first steps t.out.told t.out.told_now end) where
  run_ends : RunEnds p root args steps t (ending_meant names end)
  run_ends = record {
    first = first;
    begins = begins;
    fed = record { ran = fed_run.ran; fed = fed_run.fed; ended = fed_run.ending; sent = fed_run.sent };
    over = if_some_map _ _ by t.input.told ran;
  }
    where
      by : (bytes : List ℕ) → HasRun names p first bytes steps t.input.told_now t.out.told t.out.told_now end → EndsSo (run p bytes (replicate steps 0) first) t bytes (ending_meant names end)
      by bytes h = record {
        ended = h.ending;
        sent = h.sent;
        left = h.left ∙ ap (λ (n : ℕ). Some (drop n bytes)) (from_zero first.place (bytes_read (run p bytes (replicate steps 0) first).trace) at);
      }

  pub ended_comes : (file : Symbol → List ℕ) (gives : Option Reg) (r : Result line.Returned Refusal) → IfOk r (IsSaid gives (ending_meant names end))
      → IfErr r (Because (record never { unreturned = λ why. ending_refusal file steps (ending_meant names end) ≡ Some why; memory = Unit {0} }))
      → Comes (run_causes p root args file steps t) r
  ended_comes file gives (Ok r) said because = record { answer = said.answer; ended = subst (λ (e : Ending). RunEnds p root args steps t e) said.returned run_ends }
  ended_comes file gives (Err why) said because =
      because_map {k = record never { unreturned = λ w. ending_refusal file steps (ending_meant names end) ≡ Some w; memory = Unit {0} }} {l = run_causes p root args file steps t} (record {
        done = λ x. absurd x;
        usage = λ x. x;
        unread = λ n x. absurd x;
        refused = λ f l k x. x;
        unlinked = λ w x. x;
        unfit = λ n x. absurd x;
        unwritten = λ n x. absurd x;
        unreturned = λ w x. record { ending = ending_meant names end; ended = run_ends; told = x };
        memory = λ x. inr (inr (record { ending = ending_meant names end; ended = run_ends }));
      }) why because

  pub ended_returns : (gives : Option Reg) → gives ≡ result_of (root_of p root) → (r : Result line.Returned Refusal) → IfOk r (IsSaid gives (ending_meant names end)) → IfOk r (ReturnsSo p root args steps t)
  ended_returns gives same (Ok r) said = record {
    answer = said.answer;
    ended = subst (λ (e : Ending). RunEnds p root args steps t e) said.returned run_ends;
    is = said.is ∙ ap (λ (g : Option Reg). answer_said g said.answer) same;
  }
  ended_returns gives same (Err why) said = tt

-- ---- where it can't begin

pub unfit_because : (p : Program) (root : List ℕ) (args : List Decimal) (file : Symbol → List ℕ) (steps : ℕ) (t : Streams) → beginning p root args ≡ None → t.unused → (why : Refusal)
    → Because (record never { unfit = λ name. name ≡ root; memory = Unit {0} }) why → Because (run_causes p root args file steps t) why
unfit_because p root args file steps t none unused why h =
    because_map {k = record never { unfit = λ name. name ≡ root; memory = Unit {0} }} {l = run_causes p root args file steps t} (record {
      done = λ x. absurd x;
      usage = λ x. x;
      unread = λ n x. absurd x;
      refused = λ f l k x. x;
      unlinked = λ w x. x;
      unfit = λ n x. record { named = x; none = none; unused = unused };
      unwritten = λ n x. absurd x;
      unreturned = λ w x. absurd x;
      memory = λ x. inl unused;
    }) why h
