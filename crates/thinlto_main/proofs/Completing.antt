-- When a command has to be done, and when refused.
use Rattle.std.proofs.Common.{ℕ, ◌≡◌, ◌⊎◌, ◌∙◌, Bool, true, false, List, [], ◌∷◌, replicate, Option, Some, None, ap, inl, inr, sym, subst}
use Rattle.std.specs.List.{AllZip}
use Rattle.std.specs.Prelude.{IfSome}
use Rattle.ir_tree.specs.declared.module.Module.{Module}
use Rattle.ir_meaning.specs.Program.{Program, State}
use Rattle.ir_meaning.specs.Run.{Ending, Returned, run}
use Rattle.ir_meaning.specs.declared.value.Value.{Value}
use Rattle.link_one.specs.Laws.{AcceptedIsNotRefused, AcceptedIsOne, RefusedIsOne}
use Rattle.link_one.specs.LinkedLaws.{UnlinkedIsOne}
use Rattle.lto_fault.specs.declared.kind.RefusalKind.{RefusalKind}
use Rattle.lto_fault.specs.declared.refusal.Refusal.{Refusal}
use Rattle.lto_outside.specs.Cause.{Rose}
use Rattle.lto_outside.specs.Store.{Store}
use Rattle.lto_words.specs.declared.list.Decimal.{Decimal}
use Rattle.lto_words.specs.declared.request.Command.{Command}
use Rattle.lto_words.specs.declared.request.Command.TheVariants.{Link, Batch, Index, Run, Gen}
use Rattle.thin_link.specs.Laws.{RefusalIsOne, ReportedIsNotRefused}
use Rattle.thin_link.specs.Refusing.{IsRefused}
use Rattle.run_program.specs.Causes.{Causes, never}
use Rattle.merge_meaning.specs.Merged.{merged}
use Rattle.thinlto_main.specs.Running.{OfModules}
use Rattle.run_program.specs.Merged.{file_of}
use Rattle.run_program.specs.Runs.{CannotSend, CannotTake, DidReturn, EndedOtherwise, EndsSo, IsUnfit, RunEnds}
use Rattle.run_program.specs.Said.{ending_refusal}
use Rattle.thinlto_main.specs.Seen.{RestSeen, Seen, streams_of}
use Rattle.run_program.specs.Streams.{Streams}
use Rattle.run_program.specs.Starting.{beginning}
use Rattle.thinlto_main.specs.Holding.{Held, HoldFirstBad, HoldLinkable, HoldUnlinked, HoldsModule, LinkHeld}
use Rattle.thinlto_main.specs.Telling.{CanBeDone, CanDo, CanLink, EndsOver, HoldReport, IsTold, MustNotBegin, MustNotLink, MustNotReturn, MustRefuse, RunComesTo, RunIsTold, told}
use Rattle.run_program.proofs.Causes.{Implies}
use Rattle.thinlto_main.proofs.BatchCompleting.{batch_done, batch_unlinkable_bad, can_batch_bad, can_batch_unlinkable, one_batch_bad, one_batch_unlinkable}
use Rattle.thinlto_main.proofs.HeldLinks.{linkable_bad, linkable_unlinkable, one_unlinkable, unlinkable_bad}
use Rattle.thinlto_main.proofs.Held.{none_bad, one_first_bad, one_list}
use Rattle.lto_words.specs.declared.request.LinkOptions.{LinkOptions}

-- what is told, of a command that is asked for
abbrev pub telling : Command → Seen → RestSeen → Causes
telling c s i = record (told c s i) { usage = ⊥; memory = Unit {0} }

-- ---- of the files that tell

of_told : {X A : Type 0} (P Q : X → Type 0) → ((x : X) → P x → Q x → A) → (o : Option X) → IsTold o P → IfSome o Q → A
of_told P Q f None p q = absurd p
of_told P Q f (Some x) p q = f x p q

told_fact : {X A : Type 0} (P : X → Type 0) → ((x : X) → P x → A) → (o : Option X) → IsTold o P → A
told_fact P f None p = absurd p
told_fact P f (Some x) p = f x p

either : {A B C : Type 0} → A ⊎ B → (A → C) → (B → C) → C
either (inl a) f g = f a
either (inr b) f g = g b

-- ---- a link

-- what was done could be
link_done : (put : Store → Store → List ℕ → List ℕ → Type 0) (options : LinkOptions) (out : List ℕ) (names : List (List ℕ)) (trusted : Type 0) (old new : Option Store) → LinkHeld put options out names trusted old new
    → IfSome old (HoldLinkable options names)
link_done put options out names trusted None new h = tt
link_done put options out names trusted (Some old) None h = absurd h
link_done put options out names trusted (Some old) (Some new) h = h.linkable

-- ---- a run

-- what holds of one list of modules
record Both (P Q : List Module → Type 0) : Type 0 where
  ms : List Module
  first : P ms
  second : Q ms

-- a run over the same bytes has one ending
one_ending : (p : Program) (root : List ℕ) (args : List Decimal) (steps : ℕ) (t : Streams) (a b : Ending) → IsTold t.input.told (λ bytes. EndsOver p root args steps bytes a) → RunEnds p root args steps t b → b ≡ a
one_ending p root args steps t a b can r = of_told (λ (bytes : List ℕ). EndsOver p root args steps bytes a) (λ (bytes : List ℕ). EndsSo (run p bytes (replicate steps 0) r.first) t bytes b) by t.input.told can r.over
  where
    by : (bytes : List ℕ) → EndsOver p root args steps bytes a → EndsSo (run p bytes (replicate steps 0) r.first) t bytes b → b ≡ a
    by bytes e so =
        let firsts : Some r.first ≡ Some e.first = sym r.begins ∙ e.begins in
        let same : r.first ≡ e.first = cc firsts in
        sym so.ended ∙ ap (λ (f : State). (run p bytes (replicate steps 0) f).ending) same ∙ e.ended

begins_not : (p : Program) (root : List ℕ) (args : List Decimal) (first : State) → beginning p root args ≡ None → beginning p root args ≡ Some first → ⊥
begins_not p root args first none some = let never : None ≡ Some first = sym none ∙ some in cc never

module _ (apart : AcceptedIsNotRefused) (accepted : AcceptedIsOne) (s : Seen) (i : RestSeen) where
  done_fine : (options : LinkOptions) (names : List (List ℕ)) → IsTold s.files.held (CanBeDone options names s.files) → ¬ (Rose s.files.faults s.files.faults_now)
  done_fine options names can = told_fact (CanBeDone options names s.files) (λ held c. c.1) s.files.held can

  reported_bad : (exports names : List (List ℕ)) (limit : ℕ) (done : Bool) (file : List ℕ) (line : ℕ) (kind : RefusalKind) (held : Store) → HoldFirstBad held names file line kind → HoldReport exports names limit s done held → ⊥
  reported_bad exports names limit done file line kind held bad report = none_bad held apart names report.ms file line kind report.modules bad

  unlinked_bad : (exports names : List (List ℕ)) (why : Refusal) (file : List ℕ) (line : ℕ) (kind : RefusalKind) (held : Store) → HoldUnlinked exports names held why → HoldFirstBad held names file line kind → ⊥
  unlinked_bad exports names why file line kind held unlinked bad = none_bad held apart names unlinked.ms file line kind unlinked.modules bad

  reported_unlinked : ReportedIsNotRefused → (exports names : List (List ℕ)) (limit : ℕ) (done : Bool) (why : Refusal) (held : Store) → HoldUnlinked exports names held why → HoldReport exports names limit s done held → ⊥
  reported_unlinked reported exports names limit done why held unlinked report =
      reported names exports report.ms limit report.text why report.report
      (subst (λ (l : List Module). IsRefused names l exports why) (one_list held accepted names unlinked.ms report.ms unlinked.modules report.modules) unlinked.refused)

  one_unlinked : RefusalIsOne → (exports names : List (List ℕ)) (why other : Refusal) (held : Store) → HoldUnlinked exports names held why → HoldUnlinked exports names held other → other ≡ why
  one_unlinked one exports names why other held a b =
      one names exports a.ms other why (subst (λ (l : List Module). IsRefused names l exports other) (one_list held accepted names b.ms a.ms b.modules a.modules) b.refused) a.refused

  can_bad : (exports names : List (List ℕ)) (file : List ℕ) (line : ℕ) (kind : RefusalKind) (held : Store) → CanLink exports names s.files held → HoldFirstBad held names file line kind → ⊥
  can_bad exports names file line kind held can bad = none_bad held apart names can.ms file line kind can.modules bad

  can_unlinked : (exports names : List (List ℕ)) (why : Refusal) (held : Store) → CanLink exports names s.files held → HoldUnlinked exports names held why → ⊥
  can_unlinked exports names why held can unlinked =
      can.linked why (subst (λ (l : List Module). IsRefused names l exports why) (one_list held accepted names unlinked.ms can.ms unlinked.modules can.modules) unlinked.refused)

  fine : (exports names : List (List ℕ)) → IsTold s.files.held (CanLink exports names s.files) → ¬ (Rose s.files.faults s.files.faults_now)
  fine exports names can = told_fact (CanLink exports names s.files) (λ held c. c.fine) s.files.held can

  -- ---- the modules of a run

  module _ (root : List ℕ) (names : List (List ℕ)) (P : List Module → Type 0) where
    modules_bad : (file : List ℕ) (line : ℕ) (kind : RefusalKind) → IsTold s.files.held (λ held. HoldFirstBad held names file line kind) → OfModules (Held names s.files) root names P → ⊥
    modules_bad file line kind bad o =
        of_told (λ (held : Store). HoldFirstBad held names file line kind) (λ (held : Store). AllZip (HoldsModule held) names o.ms)
        (λ held b good. none_bad held apart names o.ms file line kind good b) s.files.held bad o.is

    bad_modules : (file : List ℕ) (line : ℕ) (kind : RefusalKind) → IsTold s.files.held (λ held. OfModules (AllZip (HoldsModule held) names) root names P) → IfSome s.files.held (λ held. HoldFirstBad held names file line kind) → ⊥
    bad_modules file line kind can bad =
        of_told (λ (held : Store). OfModules (AllZip (HoldsModule held) names) root names P) (λ (held : Store). HoldFirstBad held names file line kind)
        (λ held o b. none_bad held apart names o.ms file line kind o.is b) s.files.held can bad

    modules_unlinked : (why : Refusal) → IsTold s.files.held (λ held. HoldUnlinked (root ∷ []) names held why) → OfModules (Held names s.files) root names P → ⊥
    modules_unlinked why clash o =
        of_told (λ (held : Store). HoldUnlinked (root ∷ []) names held why) (λ (held : Store). AllZip (HoldsModule held) names o.ms)
        (λ held u good. o.linked why (subst (λ (l : List Module). IsRefused names l (root ∷ []) why) (one_list held accepted names u.ms o.ms u.modules good) u.refused)) s.files.held clash o.is

    unlinked_modules : (why : Refusal) → IsTold s.files.held (λ held. OfModules (AllZip (HoldsModule held) names) root names P) → IfSome s.files.held (λ held. HoldUnlinked (root ∷ []) names held why) → ⊥
    unlinked_modules why can clash =
        of_told (λ (held : Store). OfModules (AllZip (HoldsModule held) names) root names P) (λ (held : Store). HoldUnlinked (root ∷ []) names held why)
        (λ held o u. o.linked why (subst (λ (l : List Module). IsRefused names l (root ∷ []) why) (one_list held accepted names u.ms o.ms u.modules o.is) u.refused)) s.files.held can clash

    same_modules : (Q : List Module → Type 0) → IsTold s.files.held (λ held. OfModules (AllZip (HoldsModule held) names) root names P) → OfModules (Held names s.files) root names Q → Both P Q
    same_modules Q can o = of_told (λ (held : Store). OfModules (AllZip (HoldsModule held) names) root names P) (λ (held : Store). AllZip (HoldsModule held) names o.ms) by s.files.held can o.is
      where
        by : (held : Store) → OfModules (AllZip (HoldsModule held) names) root names P → AllZip (HoldsModule held) names o.ms → Both P Q
        by held c good = record { ms = c.ms; first = c.so; second = subst Q (one_list held accepted names o.ms c.ms good c.is) o.so }

  -- ---- the run of the modules

  module _ (root : List ℕ) (args : List Decimal) (steps : ℕ) (names : List (List ℕ)) where
    abbrev comes_to : Ending → List Module → Type 0
    comes_to ending ms = IsTold i.stream.told (λ bytes. EndsOver (merged ms) root args steps bytes ending)

    abbrev is_told : Ending → Refusal → List Module → Type 0
    is_told ending why ms = comes_to ending ms × (ending_refusal (file_of names ms) steps ending ≡ Some why)

    abbrev begins_nowhere : List Module → Type 0
    begins_nowhere ms = beginning (merged ms) root args ≡ None

    abbrev returns : List Module → Type 0
    returns ms = DidReturn (merged ms) root args steps (streams_of s i)

    abbrev ends_otherwise : Refusal → List Module → Type 0
    ends_otherwise why ms = EndedOtherwise (merged ms) root args (file_of names ms) steps (streams_of s i) why

    -- a run that returns doesn't end otherwise
    returned_not : (answer : Option Value) (why : Refusal) → RunComesTo root args steps names s i (Returned answer) → OfModules (Held names s.files) root names (ends_otherwise why) → ⊥
    returned_not answer why can o =
        let b : Both (comes_to (Returned answer)) (ends_otherwise why) = same_modules root names (comes_to (Returned answer)) (ends_otherwise why) can o in
        let same : b.second.ending ≡ Returned answer = one_ending (merged b.ms) root args steps (streams_of s i) (Returned answer) b.second.ending b.first b.second.ended in
        let never : None ≡ Some why = sym (ap (λ (e : Ending). ending_refusal (file_of names b.ms) steps e) same) ∙ b.second.told in
        cc never

    -- and one that ends otherwise doesn't return, and is told one way
    otherwise_not : (ending : Ending) (why : Refusal) → RunIsTold root args steps names s i ending why → OfModules (Held names s.files) root names returns → ⊥
    otherwise_not ending why can o =
        let b : Both (is_told ending why) returns = same_modules root names (is_told ending why) returns can o in
        let same : Returned b.second.answer ≡ ending = one_ending (merged b.ms) root args steps (streams_of s i) ending (Returned b.second.answer) b.first.0 b.second.ended in
        let never : None ≡ Some why = ap (λ (e : Ending). ending_refusal (file_of names b.ms) steps e) same ∙ b.first.1 in
        cc never

    otherwise_so : (ending : Ending) (why other : Refusal) → RunIsTold root args steps names s i ending why → OfModules (Held names s.files) root names (ends_otherwise other) → other ≡ why
    otherwise_so ending why other can o =
        let b : Both (is_told ending why) (ends_otherwise other) = same_modules root names (is_told ending why) (ends_otherwise other) can o in
        let same : b.second.ending ≡ ending = one_ending (merged b.ms) root args steps (streams_of s i) ending b.second.ending b.first.0 b.second.ended in
        let both : Some other ≡ Some why = sym b.second.told ∙ ap (λ (e : Ending). ending_refusal (file_of names b.ms) steps e) same ∙ b.first.1 in
        cc both

    -- where it has an ending it begins
    begins_so : (ending : Ending) (name : List ℕ) (ms : List Module) → comes_to ending ms → IsUnfit (merged ms) root args (streams_of s i) name → ⊥
    begins_so ending name ms can unfit =
        told_fact (λ (bytes : List ℕ). EndsOver (merged ms) root args steps bytes ending) (λ bytes e. begins_not (merged ms) root args e.first unfit.none e.begins) i.stream.told can

    fits : (ending : Ending) (name : List ℕ) → RunComesTo root args steps names s i ending → OfModules (Held names s.files) root names (λ ms. IsUnfit (merged ms) root args (streams_of s i) name) → ⊥
    fits ending name can o =
        let b : Both (comes_to ending) (λ (ms : List Module). IsUnfit (merged ms) root args (streams_of s i) name) = same_modules root names (comes_to ending) (λ (ms : List Module). IsUnfit (merged ms) root args (streams_of s i) name) can o in
        begins_so ending name b.ms b.first b.second

    told_fits : (ending : Ending) (why : Refusal) (name : List ℕ) → RunIsTold root args steps names s i ending why → OfModules (Held names s.files) root names (λ ms. IsUnfit (merged ms) root args (streams_of s i) name) → ⊥
    told_fits ending why name can o =
        let b : Both (is_told ending why) (λ (ms : List Module). IsUnfit (merged ms) root args (streams_of s i) name) = same_modules root names (is_told ending why) (λ (ms : List Module). IsUnfit (merged ms) root args (streams_of s i) name) can o in
        begins_so ending name b.ms b.first.0 b.second

    -- and where it doesn't begin it has none
    ends_not : (Q : List Module → Type 0) → IsTold s.files.held (λ held. OfModules (AllZip (HoldsModule held) names) root names begins_nowhere)
        → ((ms : List Module) → Q ms → (first : State) × (beginning (merged ms) root args ≡ Some first)) → OfModules (Held names s.files) root names Q → ⊥
    ends_not Q none begins o =
        let b : Both begins_nowhere Q = same_modules root names begins_nowhere Q none o in
        let f = begins b.ms b.second in
        begins_not (merged b.ms) root args f.0 b.first f.1

    abbrev takes : List ℕ → List Module → Type 0
    takes name ms = CannotTake (merged ms) root args steps (streams_of s i) name

    abbrev sends : List ℕ → List Module → Type 0
    sends name ms = CannotSend (merged ms) root args steps (streams_of s i) name

  -- ---- nothing is in the way

  pub completes : (c : Command) → CanDo c s i → Implies (telling c s i) (record never { done = Unit {0}; memory = Unit {0} })
  completes (Link options out names) can = record {
    done = λ x. tt;
    usage = λ x. x;
    unread = λ name x. absurd (done_fine options names can x);
    refused = λ file line kind x. of_told _ _ (λ held c bad. linkable_bad held options names apart file line kind c.0 bad) s.files.held can x;
    unlinked = λ why x. of_told _ _ (λ held c u. linkable_unlinkable held options names accepted why c.0 u) s.files.held can x;
    unfit = λ name x. x;
    unwritten = λ name x. absurd (done_fine options names can x.1);
    unreturned = λ why x. x;
    memory = λ x. tt;
  }
  completes (Index exports limit names) can = record {
    done = λ x. tt;
    usage = λ x. x;
    unread = λ name x. absurd (fine exports names can.0 x);
    refused = λ file line kind x. of_told _ _ (can_bad exports names file line kind) s.files.held can.0 x;
    unlinked = λ why x. of_told _ _ (can_unlinked exports names why) s.files.held can.0 x;
    unfit = λ name x. x;
    unwritten = λ name x. of_told (CanLink exports names s.files) (HoldReport exports names limit s false) (λ held c report. can.1 report.sent.4) s.files.held can.0 x.1;
    unreturned = λ why x. x;
    memory = λ x. tt;
  }
  completes (Batch options list) can = record {
    done = λ x. tt;
    usage = λ x. x;
    unread = λ name x. absurd (can.1 x);
    refused = λ file line kind x. of_told _ _ (λ held c bad. can_batch_bad apart accepted options list held file line kind c bad) s.files.held can.0 x;
    unlinked = λ why x. of_told _ _ (λ held c u. can_batch_unlinkable apart accepted options list held why c u) s.files.held can.0 x;
    unfit = λ name x. x;
    unwritten = λ name x. absurd (can.1 x.1);
    unreturned = λ why x. x;
    memory = λ x. tt;
  }
  completes (Run root args steps names) can = record {
    done = λ x. tt;
    usage = λ x. x;
    unread = λ name x. either x (λ a. can.work.files a.0) (λ o. can.work.input o.so.rose);
    refused = λ file line kind x. bad_modules root names (comes_to root args steps names (Returned can.answer)) file line kind can.comes x.0;
    unlinked = λ why x. unlinked_modules root names (comes_to root args steps names (Returned can.answer)) why can.comes x.0;
    unfit = λ name x. fits root args steps names (Returned can.answer) name can.comes x;
    unwritten = λ name x. can.work.out x.1.so.rose;
    unreturned = λ why x. returned_not root args steps names can.answer why can.comes x;
    memory = λ x. tt;
  }
  completes (Gen seed modules jobs) can = absurd can

  -- ---- nothing but a file

  pub refuses : RefusedIsOne → (c : Command) (file : List ℕ) (line : ℕ) (kind : RefusalKind) → MustRefuse c s file line kind
      → Implies (telling c s i) (record never { refused = λ f l k. (f ≡ file) × (l ≡ line) × (k ≡ kind); memory = Unit {0} })
  refuses one (Link options out names) file line kind must = record {
    done = λ x. of_told _ _ (λ held bad l. linkable_bad held options names apart file line kind l bad) s.files.held must.0 (link_done _ options out names _ s.files.held s.files.holds x);
    usage = λ x. x;
    unread = λ name x. absurd (must.1 x);
    refused = λ f l k x. of_told _ _ (λ held a b. one_first_bad held apart one names f file l line k kind b a) s.files.held must.0 x;
    unlinked = λ why x. of_told _ _ (λ held bad u. unlinkable_bad held options names apart why file line kind u bad) s.files.held must.0 x;
    unfit = λ name x. x;
    unwritten = λ name x. absurd (must.1 x.1);
    unreturned = λ why x. x;
    memory = λ x. tt;
  }
  refuses one (Index exports limit names) file line kind must = record {
    done = λ x. of_told _ _ (reported_bad exports names limit true file line kind) s.files.held must.0 x.1;
    usage = λ x. x;
    unread = λ name x. absurd (must.1 x);
    refused = λ f l k x. of_told _ _ (λ held a b. one_first_bad held apart one names f file l line k kind b a) s.files.held must.0 x;
    unlinked = λ why x. of_told _ _ (λ held bad u. unlinked_bad exports names why file line kind held u bad) s.files.held must.0 x;
    unfit = λ name x. x;
    unwritten = λ name x. of_told _ _ (reported_bad exports names limit false file line kind) s.files.held must.0 x.1;
    unreturned = λ why x. x;
    memory = λ x. tt;
  }
  refuses one (Batch options list) file line kind must = record {
    done = λ x. of_told _ _ (λ held bad can. can_batch_bad apart accepted options list held file line kind can bad) s.files.held must.0 (batch_done _ options list _ s.files.held s.files.holds x);
    usage = λ x. x;
    unread = λ name x. absurd (must.1 x);
    refused = λ f l k x. of_told _ _ (λ held a b. one_batch_bad apart accepted options list held one f file l line k kind b a) s.files.held must.0 x;
    unlinked = λ why x. of_told _ _ (λ held bad u. batch_unlinkable_bad apart accepted options list held why file line kind u bad) s.files.held must.0 x;
    unfit = λ name x. x;
    unwritten = λ name x. absurd (must.1 x.1);
    unreturned = λ why x. x;
    memory = λ x. tt;
  }
  refuses one (Run root args steps names) file line kind must = record {
    done = λ x. modules_bad root names _ file line kind must.0 x.1;
    usage = λ x. x;
    unread = λ name x. either x (λ a. must.1 a.0) (λ o. modules_bad root names _ file line kind must.0 o);
    refused = λ f l k x. of_told _ _ (λ held a b. one_first_bad held apart one names f file l line k kind b a) s.files.held must.0 x.0;
    unlinked = λ why x. of_told _ _ (λ held bad u. unlinked_bad (root ∷ []) names why file line kind held u bad) s.files.held must.0 x.0;
    unfit = λ name x. modules_bad root names _ file line kind must.0 x;
    unwritten = λ name x. modules_bad root names _ file line kind must.0 x.1;
    unreturned = λ why x. modules_bad root names _ file line kind must.0 x;
    memory = λ x. tt;
  }
  refuses one (Gen seed modules jobs) file line kind must = absurd must

  -- ---- nothing but the modules

  pub clashes : ReportedIsNotRefused → RefusalIsOne → UnlinkedIsOne → (c : Command) (why : Refusal) → MustNotLink c s why
      → Implies (telling c s i) (record never { unlinked = λ other. other ≡ why; memory = Unit {0} })
  clashes reported one unlinkable (Link options out names) why must = record {
    done = λ x. of_told _ _ (λ held u l. linkable_unlinkable held options names accepted why l u) s.files.held must.0 (link_done _ options out names _ s.files.held s.files.holds x);
    usage = λ x. x;
    unread = λ name x. absurd (must.1 x);
    refused = λ file line kind x. of_told _ _ (λ held u bad. unlinkable_bad held options names apart why file line kind u bad) s.files.held must.0 x;
    unlinked = λ other x. of_told _ _ (λ held a b. one_unlinkable held options names accepted unlinkable why other a b) s.files.held must.0 x;
    unfit = λ name x. x;
    unwritten = λ name x. absurd (must.1 x.1);
    unreturned = λ w x. x;
    memory = λ x. tt;
  }
  clashes reported one unlinkable (Index exports limit names) why must = record {
    done = λ x. of_told _ _ (reported_unlinked reported exports names limit true why) s.files.held must.0 x.1;
    usage = λ x. x;
    unread = λ name x. absurd (must.1 x);
    refused = λ file line kind x. of_told _ _ (unlinked_bad exports names why file line kind) s.files.held must.0 x;
    unlinked = λ other x. of_told _ _ (one_unlinked one exports names why other) s.files.held must.0 x;
    unfit = λ name x. x;
    unwritten = λ name x. of_told _ _ (reported_unlinked reported exports names limit false why) s.files.held must.0 x.1;
    unreturned = λ w x. x;
    memory = λ x. tt;
  }
  clashes reported one unlinkable (Batch options list) why must = record {
    done = λ x. of_told _ _ (λ held u can. can_batch_unlinkable apart accepted options list held why can u) s.files.held must.0 (batch_done _ options list _ s.files.held s.files.holds x);
    usage = λ x. x;
    unread = λ name x. absurd (must.1 x);
    refused = λ file line kind x. of_told _ _ (λ held u bad. batch_unlinkable_bad apart accepted options list held why file line kind u bad) s.files.held must.0 x;
    unlinked = λ other x. of_told _ _ (λ held a b. one_batch_unlinkable apart accepted options list held unlinkable why other a b) s.files.held must.0 x;
    unfit = λ name x. x;
    unwritten = λ name x. absurd (must.1 x.1);
    unreturned = λ w x. x;
    memory = λ x. tt;
  }
  clashes reported one unlinkable (Run root args steps names) why must = record {
    done = λ x. modules_unlinked root names _ why must.0 x.1;
    usage = λ x. x;
    unread = λ name x. either x (λ a. must.1 a.0) (λ o. modules_unlinked root names _ why must.0 o);
    refused = λ file line kind x. of_told _ _ (unlinked_bad (root ∷ []) names why file line kind) s.files.held must.0 x.0;
    unlinked = λ other x. of_told _ _ (one_unlinked one (root ∷ []) names why other) s.files.held must.0 x.0;
    unfit = λ name x. modules_unlinked root names _ why must.0 x;
    unwritten = λ name x. modules_unlinked root names _ why must.0 x.1;
    unreturned = λ w x. modules_unlinked root names _ why must.0 x;
    memory = λ x. tt;
  }
  clashes reported one unlinkable (Gen seed modules jobs) why must = absurd must

  -- ---- nothing but that the root doesn't take the arguments

  pub begins_none : (c : Command) (name : List ℕ) → MustNotBegin c s name → Implies (telling c s i) (record never { unfit = λ other. other ≡ name; memory = Unit {0} })
  begins_none (Link options out names) name must = absurd must
  begins_none (Index exports limit names) name must = absurd must
  begins_none (Batch options list) name must = absurd must
  begins_none (Run root args steps names) name must = record {
    done = λ x. ends_not root args steps names (returns root args steps names) must.none (λ m r. (r.ended.first, r.ended.begins)) x.1;
    usage = λ x. x;
    unread = λ n x. either x (λ a. must.fine a.0) (λ o. ends_not root args steps names (takes root args steps names n) must.none (λ m r. (r.gave_up.first, r.gave_up.begins)) o);
    refused = λ file line kind x. bad_modules root names (begins_nowhere root args steps names) file line kind must.none x.0;
    unlinked = λ why x. unlinked_modules root names (begins_nowhere root args steps names) why must.none x.0;
    unfit = λ n x. x.so.named ∙ sym must.named;
    unwritten = λ n x. ends_not root args steps names (sends root args steps names n) must.none (λ m r. (r.gave_up.first, r.gave_up.begins)) x.1;
    unreturned = λ why x. ends_not root args steps names (ends_otherwise root args steps names why) must.none (λ m r. (r.ended.first, r.ended.begins)) x;
    memory = λ x. tt;
  }
  begins_none (Gen seed modules jobs) name must = absurd must

  -- ---- nothing but how the run ends

  pub returns_none : (c : Command) (why : Refusal) → MustNotReturn c s i why → Implies (telling c s i) (record never { unreturned = λ other. other ≡ why; memory = Unit {0} })
  returns_none (Link options out names) why must = absurd must
  returns_none (Index exports limit names) why must = absurd must
  returns_none (Batch options list) why must = absurd must
  returns_none (Run root args steps names) why must = record {
    done = λ x. otherwise_not root args steps names must.ending why must.comes x.1;
    usage = λ x. x;
    unread = λ name x. either x (λ a. must.work.files a.0) (λ o. must.work.input o.so.rose);
    refused = λ file line kind x. bad_modules root names (is_told root args steps names must.ending why) file line kind must.comes x.0;
    unlinked = λ w x. unlinked_modules root names (is_told root args steps names must.ending why) w must.comes x.0;
    unfit = λ name x. told_fits root args steps names must.ending why name must.comes x;
    unwritten = λ name x. must.work.out x.1.so.rose;
    unreturned = λ other x. otherwise_so root args steps names must.ending why other must.comes x;
    memory = λ x. tt;
  }
  returns_none (Gen seed modules jobs) why must = absurd must
