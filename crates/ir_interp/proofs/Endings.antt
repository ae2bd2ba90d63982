-- How runs end, and where they are given up.
use Rattle.std.proofs.Common.{◌≡◌, ◌<◌, ◌≤◌, ℕ, suc, ◌+◌, List, [], ◌∷◌, ◌++◌, length, drop, replicate, Option, Some, Result, Ok, Err, OnErr, inl, inr, refl, sym, ap, subst, ◌∙◌, arith}
use Rattle.std.proofs.lemmas.List.{append-nil, length-append, length-replicate}
use Rattle.std.specs.Io.KnownBytes.{Appends, Keeps}
use Rattle.ir_tree.specs.declared.operand.Symbol.{Symbol}
use Rattle.ir_meaning.specs.Program.{Broken, Done, Next, On, Program, State, Took}
use Rattle.ir_meaning.specs.Run as meaning
use Rattle.ir_meaning.specs.Run.{Ran, run, run_on}
use Rattle.ir_meaning.specs.declared.event.Event.{Event}
use Rattle.ir_interp.specs.Steps.{IsEnd}
use Rattle.ir_interp.specs.declared.step_end.StepEnd.{StepEnd}
use Rattle.ir_interp.specs.declared.step_end.StepEnd.TheVariants as step_end
use Rattle.ir_interp.specs.declared.machine.Machine.{Machine}
use Rattle.ir_interp.specs.Runs.{Agree, HasFedPart, HasFedRun, HasLeft, HasRun, HasSentPart, IsBlamed, IsFed, bytes_read, ending_meant, left_behind, reads, run_each, written}
use Rattle.ir_interp.specs.Turns.{HasTurned, IsLast, Shows}
use Rattle.ir_interp.specs.declared.end.RunEnd.{RunEnd}
use Rattle.ir_interp.specs.declared.end.RunEnd.TheVariants.{OutOfSteps}
use Rattle.ir_interp.specs.declared.end.RunFault.{RunFault}
use Rattle.ir_interp.specs.declared.end.RunFault.TheVariants.{In, NoMemory, Out}
use Rattle.ir_interp.proofs.Traces.{quiet_behind, read_both, sent_still}
use Rattle.ir_interp.proofs.Turns.{Comes, behind_steps}

-- ---- the rest of a run

-- of the next n steps nothing is shown, whatever the input, and the run ends so
pub record Rests (names : List Symbol) (p : Program) (now : State) (n : ℕ) (end : RunEnd) : Type 0 where
  pub ran : Ran
  pub quiet : ran.trace ≡ []
  pub ending : ran.ending ≡ ending_meant names end
  pub over : (bytes : List ℕ) → run p bytes (replicate n 0) now ≡ ran
  pub inputs : List (List ℕ)
  pub each : length inputs ≡ n
  pub path : run_each p inputs now ≡ ran

pub no_more : (names : List Symbol) (p : Program) (now : State) → Rests names p now 0 OutOfSteps
no_more names p now = record {
  ran = record { steps = 0; trace = []; ending = meaning.Running };
  quiet = refl;
  ending = refl;
  over = λ bytes. refl;
  inputs = [];
  each = refl;
  path = refl;
}

-- the next step is the last
last : (names : List Symbol) (p : Program) (s : State) (n : ℕ) (next : Next) (end : RunEnd) (ran : Ran) → ((input : List ℕ) → Shows p s input [] next) → ((go : State → Ran) → run_on go [] next ≡ ran) → ran.trace ≡ [] → ran.ending ≡ ending_meant names end → Rests names p s (suc n) end
last names p s n next end ran takes stops quiet ending = record {
  ran = ran;
  quiet = quiet;
  ending = ending;
  over = λ bytes. ap (λ (t : Took). run_on (run p bytes (replicate n 0)) t.events t.next) (takes bytes) ∙ stops (run p bytes (replicate n 0));
  inputs = [] ∷ replicate n [];
  each = ap suc (length-replicate {A = List ℕ} n []);
  path = ap (λ (t : Took). run_on (run_each p (replicate n [])) t.events t.next) (takes []) ∙ stops (run_each p (replicate n []));
}

ends_so : (names : List Symbol) (p : Program) (s : State) (n : ℕ) (end : StepEnd) (e : RunEnd) (next : Next) → IsLast end e → IsEnd names end next → ((input : List ℕ) → Shows p s input [] next) → Rests names p s (suc n) e
ends_so names p s n (step_end.Returned answer) e (Done answer' memory place) same is takes =
    last names p s n (Done answer' memory place) e (record { steps = 1; trace = []; ending = meaning.Returned answer' }) takes (λ go. refl) refl (ap meaning.Returned is ∙ ap (ending_meant names) (sym same))
ends_so names p s n (step_end.Returned answer) e (On next) same is takes = absurd is
ends_so names p s n (step_end.Returned answer) e (Broken failure) same is takes = absurd is
ends_so names p s n (step_end.Undefined cause at) e (Broken failure) same is takes =
    last names p s n (Broken failure) e (record { steps = 1; trace = []; ending = meaning.Failed failure }) takes (λ go. refl) refl (ap meaning.Failed is ∙ ap (ending_meant names) (sym same))
ends_so names p s n (step_end.Undefined cause at) e (On next) same is takes = absurd is
ends_so names p s n (step_end.Undefined cause at) e (Done answer' memory place) same is takes = absurd is
ends_so names p s n (step_end.Uninit at) e (Broken failure) same is takes =
    last names p s n (Broken failure) e (record { steps = 1; trace = []; ending = meaning.Failed failure }) takes (λ go. refl) refl (ap meaning.Failed is ∙ ap (ending_meant names) (sym same))
ends_so names p s n (step_end.Uninit at) e (On next) same is takes = absurd is
ends_so names p s n (step_end.Uninit at) e (Done answer' memory place) same is takes = absurd is
ends_so names p s n step_end.Going e next same is takes = absurd same
ends_so names p s n step_end.Wants e next same is takes = absurd same
ends_so names p s n (step_end.Wrote byte) e next same is takes = absurd same

-- ---- runs that are over

-- over the bytes that were told
pub over_told : (names : List Symbol) (p : Program) (first : State) (left before : Option (List ℕ)) (done n budget : ℕ) (left' after : Option (List ℕ)) (m : Machine) (end : RunEnd) → done + n ≡ budget →
    (c : Comes names p first left before done left' after m) → Rests names p c.now n end → (bytes : List ℕ) → left ≡ Some (drop first.place bytes) → HasRun names p first bytes budget left' before after end
over_told names p first left before done n budget left' after m end all c r bytes is =
    let there = c.told bytes is in
    let path : run p bytes (replicate (done + n) 0) first ≡ behind_steps done c.events r.ran = there.1 n ∙ ap (λ (x : Ran). behind_steps done c.events x) (r.over bytes) in
    let trace : (run p bytes (replicate (done + n) 0) first).trace ≡ c.events = ap (λ (x : Ran). x.trace) path ∙ quiet_behind c.events r.ran.trace r.quiet in
    let ran : HasRun names p first bytes (done + n) left' before after end = record {
      ending = ap (λ (x : Ran). x.ending) path ∙ r.ending;
      sent = subst (λ (es : List Event). Appends before after (written es)) (sym trace) c.sent;
      left = there.0 ∙ ap (λ (k : ℕ). Some (drop k bytes)) (c.place ∙ ap (λ (es : List Event). first.place + bytes_read es) (sym trace));
    } in
    subst (λ (k : ℕ). HasRun names p first bytes k left' before after end) all ran

-- over what the input gave
over_given : (names : List Symbol) (p : Program) (first : State) (left before : Option (List ℕ)) (done n : ℕ) (left' after : Option (List ℕ)) (m : Machine) (end : RunEnd) →
    (c : Comes names p first left before done left' after m) (r : Rests names p c.now n end) → IsFed p first (done + n) (behind_steps done c.events r.ran)
over_given names p first left before done n left' after m end c r = record {
  inputs = c.inputs ++ r.inputs;
  each = omega (arith, c.each, r.each, length-append c.inputs r.inputs);
  is = c.path r.inputs ∙ ap (λ (x : Ran). behind_steps done c.events x) r.path;
  same = λ bytes agree.
      c.over bytes n (subst (λ (es : List Event). Agree (reads (run p bytes (replicate (done + n) 0) first).trace) (reads es)) (quiet_behind c.events r.ran.trace r.quiet) agree)
      ∙ ap (λ (x : Ran). behind_steps done c.events x) (r.over bytes);
}

pub over_fed : (names : List Symbol) (p : Program) (first : State) (left before : Option (List ℕ)) (done n budget : ℕ) (left' after : Option (List ℕ)) (m : Machine) (end : RunEnd) → done + n ≡ budget →
    (c : Comes names p first left before done left' after m) → Rests names p c.now n end → HasFedRun names p first budget before after end
over_fed names p first left before done n budget left' after m end all c r = record {
  ran = behind_steps done c.events r.ran;
  fed = subst (λ (k : ℕ). IsFed p first k (behind_steps done c.events r.ran)) all (over_given names p first left before done n left' after m end c r);
  ending = r.ending;
  sent = subst (λ (es : List Event). Appends before after (written es)) (sym (quiet_behind c.events r.ran.trace r.quiet)) c.sent;
}

-- a turn that ends the run, where n steps more were allowed
pub turn_ends_told : (names : List Symbol) (p : Program) (first : State) (left before : Option (List ℕ)) (done n budget : ℕ) (left' left'' after after' : Option (List ℕ)) (m m' : Machine) (end : RunEnd) → done + suc n ≡ budget →
    (c : Comes names p first left before done left' after m) → HasTurned names p c.now left' left'' after after' m' (Some end) → (bytes : List ℕ) → left ≡ Some (drop first.place bytes) → HasRun names p first bytes budget left'' before after' end
turn_ends_told names p first left before done n budget left' left'' after after' m m' end all c (step, (same, ends, still)) bytes is =
    let r = ends_so names p c.now n step end ends.next same ends.is ends.takes in
    subst (λ (o : Option (List ℕ)). HasRun names p first bytes budget left'' before o end) (sym still)
    (subst (λ (o : Option (List ℕ)). HasRun names p first bytes budget o before after end) (sym ends.stays)
    (over_told names p first left before done (suc n) budget left' after m end all c r bytes is))

pub turn_ends_fed : (names : List Symbol) (p : Program) (first : State) (left before : Option (List ℕ)) (done n budget : ℕ) (left' left'' after after' : Option (List ℕ)) (m m' : Machine) (end : RunEnd) → done + suc n ≡ budget →
    (c : Comes names p first left before done left' after m) → HasTurned names p c.now left' left'' after after' m' (Some end) → HasFedRun names p first budget before after' end
turn_ends_fed names p first left before done n budget left' left'' after after' m m' end all c (step, (same, ends, still)) =
    let r = ends_so names p c.now n step end ends.next same ends.is ends.takes in
    subst (λ (o : Option (List ℕ)). HasFedRun names p first budget before o end) (sym still)
    (over_fed names p first left before done (suc n) budget left' after m end all c r)

-- ---- runs that are given up

place_since : (now first : ℕ) (events later all : List Event) → now ≡ first + bytes_read events → all ≡ events ++ later → now + bytes_read later ≡ first + bytes_read all
place_since now first events later all here is = omega (arith, here, ap bytes_read is, read_both events later)

-- what is left behind the next k steps
left_since : (names : List Symbol) (p : Program) (first : State) (left before : Option (List ℕ)) (done : ℕ) (left' after : Option (List ℕ)) (m : Machine) → (c : Comes names p first left before done left' after m) (bytes : List ℕ) → left ≡ Some (drop first.place bytes) → (k : ℕ) →
    left_behind p c.now bytes k ≡ left_behind p first bytes (done + k)
left_since names p first left before done left' after m c bytes is k =
    let path = (c.told bytes is).1 k in
    let later : List Event = (run p bytes (replicate k 0) c.now).trace in
    let all : List Event = (run p bytes (replicate (done + k) 0) first).trace in
    let trace : all ≡ c.events ++ later = ap (λ (r : Ran). r.trace) path in
    ap (λ (n : ℕ). Some (drop n bytes)) (place_since c.now.place first.place c.events later all c.place trace)

has_left : (names : List Symbol) (p : Program) (first : State) (left before : Option (List ℕ)) (done : ℕ) (left' left'' after : Option (List ℕ)) (m : Machine) (why : RunFault) → (c : Comes names p first left before done left' after m) (bytes : List ℕ) → left ≡ Some (drop first.place bytes) →
    HasLeft p c.now bytes 0 left'' why → HasLeft p first bytes done left'' why
has_left names p first left before done left' left'' after m why c bytes is h = by why h
  where
    none : left_behind p c.now bytes 0 ≡ left_behind p first bytes done
    none =
        let all : done + 0 ≡ done = omega arith in
        left_since names p first left before done left' after m c bytes is 0 ∙ ap (λ (k : ℕ). left_behind p first bytes k) all

    one : left_behind p c.now bytes 1 ≡ left_behind p first bytes (suc done)
    one =
        let all : done + 1 ≡ suc done = omega arith in
        left_since names p first left before done left' after m c bytes is 1 ∙ ap (λ (k : ℕ). left_behind p first bytes k) all

    by : (f : RunFault) → HasLeft p c.now bytes 0 left'' f → HasLeft p first bytes done left'' f
    by In e = e ∙ none
    by Out e = e ∙ none
    by NoMemory (inl e) = inl (e ∙ none)
    by NoMemory (inr e) = inr (e ∙ one)

-- a run that has come so far and sends nothing more
pub part_told : (names : List Symbol) (p : Program) (first : State) (left before : Option (List ℕ)) (budget done : ℕ) (left' left'' after after' : Option (List ℕ)) (m : Machine) (why : RunFault) → done < budget →
    (c : Comes names p first left before done left' after m) → Keeps after after' → (bytes : List ℕ) → left ≡ Some (drop first.place bytes) → HasLeft p c.now bytes 0 left'' why → HasSentPart p first bytes budget why left'' before after'
part_told names p first left before budget done left' left'' after after' m why within c keeps bytes is h = record {
  steps = done;
  within = within;
  sent = subst (λ (es : List Event). Appends before after' (written es)) (sym trace) (sent_still before after after' (written c.events) c.sent keeps);
  left = has_left names p first left before done left' left'' after m why c bytes is h;
}
  where
    trace : (run p bytes (replicate done 0) first).trace ≡ c.events
    trace =
        let all : done ≡ done + 0 = omega arith in
        ap (λ (k : ℕ). (run p bytes (replicate k 0) first).trace) all ∙ ap (λ (r : Ran). r.trace) ((c.told bytes is).1 0) ∙ append-nil c.events

pub part_fed : (names : List Symbol) (p : Program) (first : State) (left before : Option (List ℕ)) (budget done : ℕ) (left' after after' : Option (List ℕ)) (m : Machine) → done < budget →
    Comes names p first left before done left' after m → Keeps after after' → HasFedPart p first budget before after'
part_fed names p first left before budget done left' after after' m within c keeps =
    let r = no_more names p c.now in
    let all : done + 0 ≡ done = omega arith in
    record {
      steps = done;
      within = within;
      ran = behind_steps done c.events r.ran;
      fed = subst (λ (k : ℕ). IsFed p first k (behind_steps done c.events r.ran)) all (over_given names p first left before done 0 left' after m OutOfSteps c r);
      sent = subst (λ (es : List Event). Appends before after' (written es)) (sym (quiet_behind c.events r.ran.trace r.quiet)) (sent_still before after after' (written c.events) c.sent keeps);
    }

pub on_err : {A E P : Type 0} (r : Result A E) → P → OnErr r P
on_err (Ok x) h = tt
on_err (Err e) h = h

-- ---- blame

-- no output was called
pub blamed_in : (i i' o o' : ℕ) (f : RunFault) → IsBlamed i i' 0 0 f → IsBlamed i i' o o' f
blamed_in i i' o o' In h = h
blamed_in i i' o o' Out h = absurd (omega (arith, h))
blamed_in i i' o o' NoMemory h = tt

-- a count that rose since later rose since earlier
pub blamed_since : (i j i' o q o' : ℕ) (f : RunFault) → i ≤ j → o ≤ q → IsBlamed j i' q o' f → IsBlamed i i' o o' f
blamed_since i j i' o q o' In a b h = omega (arith, a, h)
blamed_since i j i' o q o' Out a b h = omega (arith, b, h)
blamed_since i j i' o q o' NoMemory a b h = tt
