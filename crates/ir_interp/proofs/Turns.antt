-- Runs, one step more.
use Rattle.std.proofs.Common.{◌≡◌, ℕ, suc, ◌+◌, List, [], ◌∷◌, ◌++◌, length, drop, replicate, Option, Some, None, refl, sym, ap, subst, ◌∙◌, arith}
use Rattle.std.proofs.lemmas.List.{append_assoc, length-append}
use Rattle.std.specs.Io.KnownBytes.{Appends}
use Rattle.ir_tree.specs.declared.operand.Symbol.{Symbol}
use Rattle.ir_meaning.specs.Program.{On, Program, State, Took, step}
use Rattle.ir_meaning.specs.Run.{Ran, run, run_on}
use Rattle.ir_meaning.specs.declared.event.Event.{Event}
use Rattle.ir_interp.specs.Steps.{IsRunning}
use Rattle.ir_interp.specs.declared.step_end.StepEnd.TheVariants as step_end
use Rattle.ir_interp.specs.declared.machine.Machine.{Machine}
use Rattle.ir_interp.specs.Runs.{Agree, bytes_read, reads, run_each, written}
use Rattle.ir_interp.specs.Turns.{GoesOn, HasAdvanced, HasTurned, Shows}
use Rattle.ir_interp.proofs.Traces.{agree_behind, agree_front, first_agrees, read_both, reads_both, sent_more, sent_none, written_both}

-- k steps that showed these events, and then the rest of the run
abbrev pub behind_steps : ℕ → List Event → Ran → Ran
behind_steps k events r = record { steps = k + r.steps; trace = events ++ r.trace; ending = r.ending }

-- over these bytes, so many steps show these events and lead to where the next n begin
abbrev pub Passes : Program → List ℕ → State → ℕ → List Event → State → ℕ → Type 0
Passes p bytes first done events now n = run p bytes (replicate (done + n) 0) first ≡ behind_steps done events (run p bytes (replicate n 0) now)

-- the run has come here in so many steps
pub record Comes (names : List Symbol) (p : Program) (first : State) (left before : Option (List ℕ)) (done : ℕ) (left' after : Option (List ℕ)) (m : Machine) : Type 0 where
  pub now : State
  pub events : List Event
  pub runs : IsRunning names p m now
  pub place : now.place ≡ first.place + bytes_read events
  pub sent : Appends before after (written events)
  pub inputs : List (List ℕ)
  pub each : length inputs ≡ done
  pub path : (rest : List (List ℕ)) → run_each p (inputs ++ rest) first ≡ behind_steps done events (run_each p rest now)
  pub over : (bytes : List ℕ) (n : ℕ) → Agree (reads (run p bytes (replicate (done + n) 0) first).trace) (reads events) → Passes p bytes first done events now n
  pub told : (bytes : List ℕ) → left ≡ Some (drop first.place bytes) → (left' ≡ Some (drop now.place bytes)) × ((n : ℕ) → Passes p bytes first done events now n)

-- ---- steps

pub come_first : (names : List Symbol) (p : Program) (s : State) (left sent : Option (List ℕ)) (m : Machine) → IsRunning names p m s → Comes names p s left sent 0 left sent m
come_first names p s left sent m r = record {
  now = s;
  events = [];
  runs = r;
  place = omega arith;
  sent = sent_none sent;
  inputs = [];
  each = refl;
  path = λ rest. same (run_each p rest s);
  over = λ bytes n agree. here bytes n;
  told = λ bytes is. (is, here bytes);
}
  where
    same : (r : Ran) → r ≡ behind_steps 0 [] r
    same r = ap (λ (k : ℕ). record { steps = k; trace = r.trace; ending = r.ending }) (omega arith)

    here : (bytes : List ℕ) (n : ℕ) → Passes p bytes s 0 [] s n
    here bytes n = ap (λ (k : ℕ). run p bytes (replicate k 0) s) (omega arith) ∙ same (run p bytes (replicate n 0) s)

one_step : (p : Program) (bytes : List ℕ) (s : State) (events : List Event) (next : State) (n : ℕ) → Shows p s bytes events (On next) →
    run p bytes (replicate (suc n) 0) s ≡ behind_steps 1 events (run p bytes (replicate n 0) next)
one_step p bytes s events next n e =
    let go : State → Ran = run p bytes (replicate n 0) in
    ap (λ (t : Took). run_on go t.events t.next) e
    ∙ ap (λ (k : ℕ). record { steps = k; trace = events ++ (go next).trace; ending = (go next).ending }) (omega arith)

one_each : (p : Program) (input : List ℕ) (s : State) (events : List Event) (next : State) (rest : List (List ℕ)) → Shows p s input events (On next) →
    run_each p (input ∷ rest) s ≡ behind_steps 1 events (run_each p rest next)
one_each p input s events next rest e =
    let go : State → Ran = run_each p rest in
    ap (λ (t : Took). run_on go t.events t.next) e
    ∙ ap (λ (k : ℕ). record { steps = k; trace = events ++ (go next).trace; ending = (go next).ending }) (omega arith)

behind_one : (done done' : ℕ) (es fs : List Event) (r : Ran) → done' ≡ done + 1 → behind_steps done es (behind_steps 1 fs r) ≡ behind_steps done' (es ++ fs) r
behind_one done done' es fs r one =
    ap (λ (k : ℕ). record { steps = k; trace = es ++ (fs ++ r.trace); ending = r.ending }) (omega (arith, one))
    ∙ ap (λ (gs : List Event). record { steps = done' + r.steps; trace = gs; ending = r.ending }) (sym (append_assoc es fs r.trace))

-- one step more
pub come_further : (names : List Symbol) (p : Program) (first : State) (left before : Option (List ℕ)) (done done' : ℕ) (left' left'' after after' : Option (List ℕ)) (m m' : Machine) (events : List Event) → done' ≡ done + 1 →
    (c : Comes names p first left before done left' after m) → GoesOn names p c.now left' left'' m' events → Appends after after' (written events) → Comes names p first left before done' left'' after' m'
come_further names p first left before done done' left' left'' after after' m m' events one c g sends = record {
  now = g.next;
  events = c.events ++ events;
  runs = g.runs;
  place = omega (arith, g.place, c.place, read_both c.events events);
  sent = subst (λ (bs : List ℕ). Appends before after' bs) (sym (written_both c.events events)) (sent_more before after after' (written c.events) (written events) c.sent sends);
  inputs = c.inputs ++ (g.input ∷ []);
  each = omega (arith, one, c.each, length-append c.inputs (g.input ∷ []));
  path = λ rest.
      ap (λ (inputs : List (List ℕ)). run_each p inputs first) (append_assoc c.inputs (g.input ∷ []) rest)
      ∙ c.path (g.input ∷ rest)
      ∙ ap (λ (r : Ran). behind_steps done c.events r) (one_each p g.input c.now events g.next rest g.takes)
      ∙ behind_one done done' c.events events (run_each p rest g.next) one;
  over = agreeing;
  told = λ bytes is.
      let there = c.told bytes is in
      let goes = g.told bytes there.0 in
      (goes.1, λ n. further bytes n (there.1 (suc n)) goes.0);
}
  where
    all : (n : ℕ) → done' + n ≡ done + suc n
    all n = omega (arith, one)

    further : (bytes : List ℕ) (n : ℕ) → Passes p bytes first done c.events c.now (suc n) → Shows p c.now bytes events (On g.next) → Passes p bytes first done' (c.events ++ events) g.next n
    further bytes n path takes =
        ap (λ (k : ℕ). run p bytes (replicate k 0) first) (all n)
        ∙ path
        ∙ ap (λ (r : Ran). behind_steps done c.events r) (one_step p bytes c.now events g.next n takes)
        ∙ behind_one done done' c.events events (run p bytes (replicate n 0) g.next) one

    -- the step's read agrees, since those before it do
    agreeing : (bytes : List ℕ) (n : ℕ) → Agree (reads (run p bytes (replicate (done' + n) 0) first).trace) (reads (c.events ++ events)) → Passes p bytes first done' (c.events ++ events) g.next n
    agreeing bytes n agree =
        let later : List Event = (run p bytes (replicate (suc n) 0) c.now).trace in
        let whole : List (Option ℕ) = reads (run p bytes (replicate (done + suc n) 0) first).trace in
        let same : Agree (reads (run p bytes (replicate (done' + n) 0) first).trace) (reads c.events ++ reads events) = subst (λ (rs : List (Option ℕ)). Agree (reads (run p bytes (replicate (done' + n) 0) first).trace) rs) (reads_both c.events events) agree in
        let so : Agree whole (reads c.events ++ reads events) = subst (λ (k : ℕ). Agree (reads (run p bytes (replicate k 0) first).trace) (reads c.events ++ reads events)) (all n) same in
        let path : Passes p bytes first done c.events c.now (suc n) = c.over bytes (suc n) (agree_front whole (reads c.events) (reads events) so) in
        let split : whole ≡ reads c.events ++ reads later = ap (λ (r : Ran). reads r.trace) path ∙ reads_both c.events later in
        let both : Agree (reads c.events ++ reads later) (reads c.events ++ reads events) = subst (λ (rs : List (Option ℕ)). Agree rs (reads c.events ++ reads events)) split so in
        further bytes n path
        (g.over bytes (first_agrees (run p bytes (replicate n 0)) (step p bytes c.now 0).events (step p bytes c.now 0).next (reads events) (agree_behind (reads c.events) (reads later) (reads events) both)))

-- ---- turns

-- a step that wrote nothing
pub turn_quiet : (names : List Symbol) (p : Program) (s : State) (left left' sent : Option (List ℕ)) (m : Machine) → HasAdvanced names p s left left' m step_end.Going → HasTurned names p s left left' sent sent m None
turn_quiet names p s left left' sent m (events, (quiet, goes)) = (events, (goes, subst (λ (bs : List ℕ). Appends sent sent bs) (sym quiet) (sent_none sent)))

-- behind a turn that goes on the run has come one step further
pub turn_further : (names : List Symbol) (p : Program) (first : State) (left before : Option (List ℕ)) (done done' : ℕ) (left' left'' after after' : Option (List ℕ)) (m m' : Machine) → done' ≡ done + 1 →
    (c : Comes names p first left before done left' after m) → HasTurned names p c.now left' left'' after after' m' None → Comes names p first left before done' left'' after' m'
turn_further names p first left before done done' left' left'' after after' m m' one c (events, (goes, sends)) =
    come_further names p first left before done done' left' left'' after after' m m' events one c goes sends
