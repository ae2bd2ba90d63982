-- One step of the machine with its input, against the definition's.
use Rattle.std.proofs.Common.{◌≡◌, ℕ, zero, suc, ◌+◌, List, [], ◌∷◌, ◌++◌, drop, replicate, slice_get, Option, Some, None, Result, Ok, Err, IfOk, IfErr, inr, refl, sym, ap, subst, ◌∙◌, arith}
use Rattle.std.proofs.lemmas.List.{append-nil}
use Rattle.std.specs.Io.KnownBytes.{Keeps}
use Rattle.ir_tree.specs.declared.operand.Symbol.{Symbol}
use Rattle.ir_meaning.specs.Program.{Next, On, Program, State, Took, step}
use Rattle.ir_meaning.specs.Run.{run, run_on}
use Rattle.ir_meaning.specs.declared.event.Event.{Event}
use Rattle.ir_meaning.specs.declared.event.Event.TheVariants.{Wrote}
use Rattle.lto_outside.specs.Bytes.{Yields}
use Rattle.lto_outside.specs.declared.fault.Fault.{Fault}
use Rattle.ir_interp.specs.Scenes.{Heard, Said, Silent, behind, heard}
use Rattle.ir_interp.specs.Steps.{IsEnd, IsRunning, IsStep, Leads, WantsByte}
use Rattle.ir_interp.specs.declared.step_end.StepEnd.{StepEnd}
use Rattle.ir_interp.specs.declared.step_end.StepEnd.TheVariants as step_end
use Rattle.ir_interp.specs.declared.machine.Machine.{Machine}
use Rattle.ir_interp.specs.Runs.{Agree, HasLeft, bytes_read, left_behind, reads, written}
use Rattle.ir_interp.specs.Turns.{Ends, GoesOn, HasAdvanced, Shows}
use Rattle.ir_interp.specs.declared.end.RunFault.TheVariants.{NoMemory}

-- ---- without input

-- a step that asks for no byte
quiet_step : (names : List Symbol) (p : Program) (s : State) (left : Option (List ℕ)) (m : Machine) (events : List Event) (next : State) → bytes_read events ≡ 0 → next.place ≡ s.place → Leads p s 0 None events (On next) → IsRunning names p m next → GoesOn names p s left left m events
quiet_step names p s left m events next none stays leads runs = record {
  next = next;
  runs = runs;
  place = omega (arith, stays, none);
  input = [];
  takes = leads [] tt;
  over = λ bytes agree. leads bytes tt;
  told = λ bytes is. (leads bytes tt, is ∙ ap (λ (n : ℕ). Some (drop n bytes)) (sym stays));
}

advance_going : (names : List Symbol) (p : Program) (s : State) (left : Option (List ℕ)) (m : Machine) → IsStep names p s 0 None m step_end.Going → HasAdvanced names p s left left m step_end.Going
advance_going names p s left m (Silent, (next, (quiet, place, leads, runs))) = ([], (refl, quiet_step names p s left m [] next refl place leads runs))
advance_going names p s left m (Heard byte, (next, (quiet, place, leads, runs))) = absurd (cc quiet)
advance_going names p s left m (Said byte, (next, (quiet, place, leads, runs))) = absurd quiet

advance_wrote : (names : List Symbol) (p : Program) (s : State) (left : Option (List ℕ)) (m : Machine) (byte : ℕ) → IsStep names p s 0 None m (step_end.Wrote byte) → HasAdvanced names p s left left m (step_end.Wrote byte)
advance_wrote names p s left m byte (next, (place, leads, runs)) = quiet_step names p s left m (Wrote byte ∷ []) next refl place leads runs

ended : (names : List Symbol) (p : Program) (s : State) (left : Option (List ℕ)) (end : StepEnd) (next : Next) → Leads p s 0 None [] next → IsEnd names end next → Ends names p s left left end
ended names p s left end next leads e = record { next = next; takes = λ input. leads input tt; is = e; stays = refl }

pub advance_quiet : (names : List Symbol) (p : Program) (s : State) (left : Option (List ℕ)) (m : Machine) (end : StepEnd) → (end ≡ step_end.Wants → ⊥) → IsStep names p s 0 None m end → HasAdvanced names p s left left m end
advance_quiet names p s left m step_end.Going other h = advance_going names p s left m h
advance_quiet names p s left m step_end.Wants other h = absurd (other refl)
advance_quiet names p s left m (step_end.Wrote byte) other h = advance_wrote names p s left m byte h
advance_quiet names p s left m (step_end.Returned answer) other (next, (leads, e, at)) = ended names p s left (step_end.Returned answer) next leads e
advance_quiet names p s left m (step_end.Undefined cause place) other (next, (leads, e, at)) = ended names p s left (step_end.Undefined cause place) next leads e
advance_quiet names p s left m (step_end.Uninit place) other (next, (leads, e, at)) = ended names p s left (step_end.Uninit place) next leads e

-- ---- with what the input has next

-- what the input gives is what the bytes have at the place
gives_here : (bytes : List ℕ) (place : ℕ) (new : Option (List ℕ)) (byte : Option ℕ) → Yields {E = Fault} (Some (drop place bytes)) new (Ok byte) →
    (slice_get bytes place ≡ byte) × (new ≡ Some (drop (behind (Heard byte) place) bytes))
gives_here bytes place None (Some b) g = absurd g
gives_here bytes place (Some ys) (Some b) g = (taken bytes place g) where
  taken : (xs : List ℕ) (k : ℕ) → drop k xs ≡ b ∷ ys → (slice_get xs k ≡ Some b) × (Some ys ≡ Some (drop (suc k) xs))
  taken [] zero e = absurd (cc e)
  taken [] (suc k) e = absurd (cc e)
  taken (x ∷ xs) zero e = let h : x ≡ b = cc e in let t : xs ≡ ys = cc e in (ap Some h, ap Some (sym t ∙ none xs)) where
    none : (zs : List ℕ) → zs ≡ drop 0 zs
    none [] = refl
    none (z ∷ zs) = refl
  taken (x ∷ xs) (suc k) e = taken xs k e
gives_here bytes place None None g = absurd g.1
gives_here bytes place (Some ys) None g = (past bytes place g.0, ap Some g.1) where
  past : (xs : List ℕ) (k : ℕ) → drop k xs ≡ [] → slice_get xs k ≡ None
  past [] k e = refl
  past (x ∷ xs) zero e = absurd (cc e)
  past (x ∷ xs) (suc k) e = past xs k e

gives_told : (bytes : List ℕ) (place : ℕ) (left left' : Option (List ℕ)) (byte : Option ℕ) → left ≡ Some (drop place bytes) → Yields {E = Fault} left left' (Ok byte) →
    (slice_get bytes place ≡ byte) × (left' ≡ Some (drop (behind (Heard byte) place) bytes))
gives_told bytes place left left' byte is gives = gives_here bytes place left' byte (subst (λ (o : Option (List ℕ)). Yields {E = Fault} o left' (Ok byte)) is gives)

heard_one : (byte : Option ℕ) (place : ℕ) → behind (Heard byte) place ≡ place + bytes_read (heard byte ∷ [])
heard_one None place = omega arith
heard_one (Some b) place = omega arith

heard_none : (byte : Option ℕ) → written (heard byte ∷ []) ≡ []
heard_none None = refl
heard_none (Some b) = refl

no_write : (byte : Option ℕ) (b : ℕ) → heard byte ≡ Wrote b → ⊥
no_write None b e = cc e
no_write (Some c) b e = cc e

-- bytes that have this at this place
abbrev given_at : Option ℕ → ℕ → List ℕ
given_at None place = []
given_at (Some b) place = replicate place 0 ++ (b ∷ [])

behind_zeros : (b place : ℕ) → slice_get (replicate place 0 ++ (b ∷ [])) place ≡ Some b
behind_zeros b zero = refl
behind_zeros b (suc place) = behind_zeros b place

at_given : (byte : Option ℕ) (place : ℕ) → slice_get (given_at byte place) place ≡ byte
at_given None place = refl
at_given (Some b) place = behind_zeros b place

-- what the step shows is what was wanted
shows : (p : Program) (s : State) (byte : Option ℕ) (events : List Event) (next : Next) → WantsByte p s → Leads p s 0 (Some byte) events next → events ≡ heard byte ∷ []
shows p s byte events next wants leads =
    let bytes = given_at byte s.place in
    let at = at_given byte s.place in
    let w = wants bytes 0 in
    sym (ap (λ (t : Took). t.events) (leads bytes at)) ∙ ap (λ (t : Took). t.events) w.1 ∙ ap (λ (o : Option ℕ). heard o ∷ []) at

same_heard : (x y : Option ℕ) → Agree (reads (heard x ∷ [])) (reads (heard y ∷ [])) → x ≡ y
same_heard None None a = a.0
same_heard None (Some c) a = a.0
same_heard (Some b) None a = a.0
same_heard (Some b) (Some c) a = a.0

-- bytes that answer the read so have it at the place
agreed : (p : Program) (s : State) (bytes : List ℕ) (byte : Option ℕ) → WantsByte p s → Agree (reads (step p bytes s 0).events) (reads (heard byte ∷ [])) → slice_get bytes s.place ≡ byte
agreed p s bytes byte wants agree =
    let w = wants bytes 0 in
    same_heard (slice_get bytes s.place) byte (subst (λ (t : Took). Agree (reads t.events) (reads (heard byte ∷ []))) w.1 agree)

-- a step that was given the byte that it asked for
heard_step : (names : List Symbol) (p : Program) (s : State) (left left' : Option (List ℕ)) (m : Machine) (byte : Option ℕ) (next : State) → WantsByte p s → Yields {E = Fault} left left' (Ok byte) → next.place ≡ behind (Heard byte) s.place →
    Leads p s 0 (Some byte) (heard byte ∷ []) (On next) → IsRunning names p m next → GoesOn names p s left left' m (heard byte ∷ [])
heard_step names p s left left' m byte next wants gives place leads runs = record {
  next = next;
  runs = runs;
  place = place ∙ heard_one byte s.place;
  input = given_at byte s.place;
  takes = leads (given_at byte s.place) (at_given byte s.place);
  over = λ bytes agree. leads bytes (agreed p s bytes byte wants agree);
  told = λ bytes is.
      let got = gives_told bytes s.place left left' byte is gives in
      (leads bytes got.0, got.1 ∙ ap (λ (n : ℕ). Some (drop n bytes)) (sym place));
}

pub fed : (names : List Symbol) (p : Program) (s : State) (left left' : Option (List ℕ)) (m : Machine) (byte : Option ℕ) (end : StepEnd) → WantsByte p s → Yields {E = Fault} left left' (Ok byte) → IsStep names p s 0 (Some byte) m end → HasAdvanced names p s left left' m end
fed names p s left left' m byte step_end.Going wants gives (Silent, (next, (quiet, place, leads, runs))) = absurd (cc (shows p s byte [] (On next) wants leads))
fed names p s left left' m byte step_end.Going wants gives (Heard other, (next, (quiet, place, leads, runs))) =
    let same : other ≡ byte = cc quiet in
    let place' : next.place ≡ behind (Heard byte) s.place = place ∙ ap (λ (o : Option ℕ). behind (Heard o) s.place) same in
    let leads' : Leads p s 0 (Some byte) (heard byte ∷ []) (On next) = subst (λ (o : Option ℕ). Leads p s 0 (Some byte) (heard o ∷ []) (On next)) same leads in
    (heard byte ∷ [], (heard_none byte, heard_step names p s left left' m byte next wants gives place' leads' runs))
fed names p s left left' m byte step_end.Going wants gives (Said other, (next, (quiet, place, leads, runs))) = absurd quiet
fed names p s left left' m byte step_end.Wants wants gives (none, w, runs) = absurd (cc none)
fed names p s left left' m byte (step_end.Wrote b) wants gives (next, (place, leads, runs)) =
    let e = shows p s byte (Wrote b ∷ []) (On next) wants leads in
    absurd (no_write byte b (sym (cc e)))
fed names p s left left' m byte (step_end.Returned answer) wants gives (next, (leads, e, there)) = absurd (cc (shows p s byte [] next wants leads))
fed names p s left left' m byte (step_end.Undefined cause place) wants gives (next, (leads, e, there)) = absurd (cc (shows p s byte [] next wants leads))
fed names p s left left' m byte (step_end.Uninit place) wants gives (next, (leads, e, there)) = absurd (cc (shows p s byte [] next wants leads))

-- ---- what is left where a step wasn't done

pub nothing_taken : (p : Program) (s : State) (bytes : List ℕ) (left : Option (List ℕ)) → left ≡ Some (drop s.place bytes) → left ≡ left_behind p s bytes 0
nothing_taken p s bytes left is =
    let here : s.place ≡ s.place + 0 = omega arith in
    is ∙ ap (λ (n : ℕ). Some (drop n bytes)) here

kept : (xs : List ℕ) (new : Option (List ℕ)) → Keeps (Some xs) new → new ≡ Some xs
kept xs None k = absurd k
kept xs (Some ys) k = ap Some k

-- the input failed
pub not_given : (p : Program) (s : State) (bytes : List ℕ) (left left' : Option (List ℕ)) → left ≡ Some (drop s.place bytes) → Keeps left left' → left' ≡ left_behind p s bytes 0
not_given p s bytes left left' is keeps = nothing_taken p s bytes left' (kept (drop s.place bytes) left' (subst (λ (o : Option (List ℕ)). Keeps o left') is keeps))

-- what one step that goes on shows
one_shown : (p : Program) (s : State) (bytes : List ℕ) (events : List Event) (next : State) → Shows p s bytes events (On next) → (run p bytes (replicate 1 0) s).trace ≡ events
one_shown p s bytes events next e = ap (λ (t : Took). (run_on (run p bytes []) t.events t.next).trace) e ∙ append-nil events

-- memory was refused to a step that was given its byte
pub taken_in_vain : (p : Program) (s : State) (bytes : List ℕ) (left left' : Option (List ℕ)) (byte : Option ℕ) → WantsByte p s → left ≡ Some (drop s.place bytes) → Yields {E = Fault} left left' (Ok byte) → HasLeft p s bytes 0 left' NoMemory
taken_in_vain p s bytes left left' byte wants is gives =
    let got = gives_told bytes s.place left left' byte is gives in
    let w = wants bytes 0 in
    let trace : (run p bytes (replicate 1 0) s).trace ≡ heard byte ∷ [] = one_shown p s bytes (heard (slice_get bytes s.place) ∷ []) w.0 w.1 ∙ ap (λ (o : Option ℕ). heard o ∷ []) got.0 in
    inr (got.1 ∙ ap (λ (n : ℕ). Some (drop n bytes)) (heard_one byte s.place ∙ ap (λ (es : List Event). s.place + bytes_read es) (sym trace)))

-- the output failed
pub unsent : (names : List Symbol) (p : Program) (s : State) (bytes : List ℕ) (left left' : Option (List ℕ)) (m : Machine) (byte : ℕ) → GoesOn names p s left left' m (Wrote byte ∷ []) → left ≡ Some (drop s.place bytes) → left' ≡ left_behind p s bytes 0
unsent names p s bytes left left' m byte goes is = (goes.told bytes is).1 ∙ ap (λ (n : ℕ). Some (drop n bytes)) goes.place

-- ---- results

pub then_ok : {T E : Type 0} {P Q : T → Type 0} (r : Result T E) → IfOk r P → ((x : T) → P x → Q x) → IfOk r Q
then_ok (Ok x) h f = f x h
then_ok (Err e) h f = tt

pub then_err : {T E : Type 0} {P Q : E → Type 0} (r : Result T E) → IfErr r P → ((x : E) → P x → Q x) → IfErr r Q
then_err (Ok x) h f = tt
then_err (Err e) h f = f e h

pub err_so : {T E : Type 0} (P : E → Type 0) (r : Result T E) (e : E) → r ≡ Err e → P e → IfErr r P
err_so P (Ok x) e is h = tt
err_so P (Err y) e is h = let same : e ≡ y = cc is in subst P same h
