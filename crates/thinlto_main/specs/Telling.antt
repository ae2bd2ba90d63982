-- The same of files that tell what they hold.
use Rattle.std.specs.Prelude.{◌≡◌, ℕ, Bool, true, false, List, [], ◌∷◌, replicate, Option, Some, None, IfSome, MatchOption}
use Rattle.std.specs.List.{AllZip}
use Rattle.ir_tree.specs.declared.module.Module.{Module}
use Rattle.ir_meaning.specs.Program.{Program, State}
use Rattle.ir_meaning.specs.Run.{Ending, Returned, run}
use Rattle.ir_meaning.specs.declared.value.Value.{Value}
use Rattle.lto_outside.specs.Cause.{Rose}
use Rattle.lto_outside.specs.Seen.{FilesSeen}
use Rattle.lto_outside.specs.Store.{Store, HasPut, HasPart, Stays}
use Rattle.lto_fault.specs.declared.kind.RefusalKind.{RefusalKind}
use Rattle.lto_fault.specs.declared.refusal.Refusal.{Refusal}
use Rattle.lto_words.specs.declared.list.Decimal.{Decimal}
use Rattle.lto_words.specs.declared.request.Command.{Command}
use Rattle.lto_words.specs.declared.request.Command.TheVariants.{Link, Batch, Index, Run, Gen}
use Rattle.lto_fault.specs.Pushing.{Pushes}
use Rattle.thin_link.specs.Linking.{IsIndexReport}
use Rattle.thin_link.specs.Refusing.{IsRefused}
use Rattle.thinlto_main.specs.Asking.{Asked}
use Rattle.thinlto_main.specs.BatchHolding.{BatchHeld, CanBatch, HavePart, HavePut, HoldBatchBad, HoldBatchUnlinkable}
use Rattle.thinlto_main.specs.Honest.{IsTrustedBy}
use Rattle.thinlto_main.specs.Holding.{Held, HoldFirstBad, HoldLinkable, HoldUnlinkable, HoldUnlinked, HoldsModule, LinkHeld}
use Rattle.run_program.specs.Causes.{Causes, free, never}
use Rattle.merge_meaning.specs.Merged.{merged}
use Rattle.thinlto_main.specs.Running.{OfModules, running_by}
use Rattle.run_program.specs.Merged.{file_of, merged_causes}
use Rattle.run_program.specs.Said.{ending_refusal}
use Rattle.thinlto_main.specs.Seen.{RestSeen, Seen, streams_of}
use Rattle.run_program.specs.Starting.{beginning}
use Rattle.lto_words.specs.declared.request.LinkOptions.{LinkOptions}

-- ---- what a command did to them

-- what was pushed is the report of the modules that they hold, or a front of it; every report of these modules is this text
pub record HoldReport (exports names : List (List ℕ)) (limit : ℕ) (s : Seen) (done : Bool) (held : Store) : Type 0 where
  pub ms : List Module
  pub text : List ℕ
  pub modules : AllZip (HoldsModule held) names ms
  pub report : IsIndexReport names ms exports limit text
  pub only : (others : List Module) (other : List ℕ) → AllZip (HoldsModule held) names others → IsIndexReport names others exports limit other → other ≡ text
  pub sent : Pushes s.out text done

-- ---- each answer, where the files tell: a case for each command

-- of files that are read
abbrev pub told_files : List (List ℕ) → List (List ℕ) → FilesSeen → Causes
told_files exports names files = record free {
  usage = ⊥;
  unread = λ name. Rose files.faults files.faults_now;
  refused = λ file line kind. IfSome files.held (λ held. HoldFirstBad held names file line kind);
  unlinked = λ why. IfSome files.held (λ held. HoldUnlinked exports names held why);
  unfit = λ name. ⊥;
  unreturned = λ why. ⊥;
}

abbrev pub told : Command → Seen → RestSeen → Causes
told (Link options out names) s i = record (told_files options.exports names s.files) {
  unlinked = λ why. IfSome s.files.held (λ held. HoldUnlinkable options names held why);
  done = LinkHeld HasPut options out names (IsTrustedBy options i.honest) s.files.held s.files.holds;
  unwritten = λ name. LinkHeld HasPart options out names (IsTrustedBy options i.honest) s.files.held s.files.holds × Rose s.files.faults s.files.faults_now;
}
told (Index exports limit names) s i = record (told_files exports names s.files) {
  done = Stays s.files.held s.files.holds × IfSome s.files.held (HoldReport exports names limit s true);
  unwritten = λ name. Stays s.files.held s.files.holds × IfSome s.files.held (HoldReport exports names limit s false);
}
told (Batch options list) s i = record free {
  usage = ⊥;
  unread = λ name. Rose s.files.faults s.files.faults_now;
  refused = λ file line kind. IfSome s.files.held (λ held. HoldBatchBad options list held file line kind);
  unlinked = λ why. IfSome s.files.held (λ held. HoldBatchUnlinkable options list held why);
  unfit = λ name. ⊥;
  unreturned = λ why. ⊥;
  done = BatchHeld HavePut options list (IsTrustedBy options i.honest) s.files.held s.files.holds;
  unwritten = λ name. BatchHeld (HavePart name) options list (IsTrustedBy options i.honest) s.files.held s.files.holds × Rose s.files.faults s.files.faults_now;
}
told (Run root args steps names) s i = record (running_by (Held names s.files) (told_files (root ∷ []) names s.files) root args steps names (streams_of s i)) {
  done = Stays s.files.held s.files.holds × OfModules (Held names s.files) root names (λ ms. (merged_causes root args steps names (streams_of s i) ms).done);
  unwritten = λ name. Stays s.files.held s.files.holds × OfModules (Held names s.files) root names (λ ms. (merged_causes root args steps names (streams_of s i) ms).unwritten name);
}
told (Gen seed modules jobs) s i = never

-- the same of the words
abbrev pub told_of : List (List ℕ) → Seen → RestSeen → Causes
told_of words s i = record free {
  done = Asked words (λ c. (told c s i).done);
  refused = λ file line kind. Asked words (λ c. (told c s i).refused file line kind);
  unlinked = λ why. Asked words (λ c. (told c s i).unlinked why);
  unfit = λ name. Asked words (λ c. (told c s i).unfit name);
  unwritten = λ name. Asked words (λ c. (told c s i).unwritten name);
  unreturned = λ why. Asked words (λ c. (told c s i).unreturned why);
}

-- ---- when a command has to be done, and when refused

-- they hold modules that have a thin link, and no call failed
pub record CanLink (exports names : List (List ℕ)) (files : FilesSeen) (held : Store) : Type 0 where
  pub ms : List Module
  pub modules : AllZip (HoldsModule held) names ms
  pub linked : (why : Refusal) → IsRefused names ms exports why → ⊥
  pub fine : ¬ (Rose files.faults files.faults_now)

-- they hold modules that nothing keeps from being linked, and no call failed
abbrev pub CanBeDone : LinkOptions → List (List ℕ) → FilesSeen → Store → Type 0
CanBeDone options names files held = HoldLinkable options names held × ¬ (Rose files.faults files.faults_now)

abbrev pub IsTold : {X : Type 0} → Option X → (X → Type 0) → Type 0
IsTold held P = MatchOption held ⊥ P

-- the run of the program from the root over these bytes ends so
pub record EndsOver (p : Program) (root : List ℕ) (args : List Decimal) (steps : ℕ) (bytes : List ℕ) (ending : Ending) : Type 0 where
  pub first : State
  pub begins : beginning p root args ≡ Some first
  pub ended : (run p bytes (replicate steps 0) first).ending ≡ ending

-- they hold modules whose run over what the input has ends so
abbrev pub RunComesTo : List ℕ → List Decimal → ℕ → List (List ℕ) → Seen → RestSeen → Ending → Type 0
RunComesTo root args steps names s i ending =
    IsTold s.files.held (λ held. OfModules (AllZip (HoldsModule held) names) root names (λ ms. IsTold i.stream.told (λ bytes. EndsOver (merged ms) root args steps bytes ending)))

-- the same, and it ends otherwise than by returning and is told so
abbrev pub RunIsTold : List ℕ → List Decimal → ℕ → List (List ℕ) → Seen → RestSeen → Ending → Refusal → Type 0
RunIsTold root args steps names s i ending why =
    IsTold s.files.held (λ held. OfModules (AllZip (HoldsModule held) names) root names (λ ms. IsTold i.stream.told (λ bytes. EndsOver (merged ms) root args steps bytes ending) × (ending_refusal (file_of names ms) steps ending ≡ Some why)))

-- no call of the files, the input or the output failed
pub record AllWork (s : Seen) (i : RestSeen) : Type 0 where
  pub files : ¬ (Rose s.files.faults s.files.faults_now)
  pub input : ¬ (Rose i.stream.faults i.stream.faults_now)
  pub out : ¬ (Rose s.out.faults s.out.faults_now)

-- they hold modules whose run returns
pub record CanReturn (root : List ℕ) (args : List Decimal) (steps : ℕ) (names : List (List ℕ)) (s : Seen) (i : RestSeen) : Type 0 where
  pub answer : Option Value
  pub comes : RunComesTo root args steps names s i (Returned answer)
  pub work : AllWork s i

-- nothing is in the way
abbrev pub CanDo : Command → Seen → RestSeen → Type 0
CanDo (Link options out names) s i = IsTold s.files.held (CanBeDone options names s.files)
CanDo (Index exports limit names) s i = IsTold s.files.held (CanLink exports names s.files) × ¬ (Rose s.out.faults s.out.faults_now)
CanDo (Batch options list) s i = IsTold s.files.held (CanBatch options list) × ¬ (Rose s.files.faults s.files.faults_now)
CanDo (Run root args steps names) s i = CanReturn root args steps names s i
CanDo (Gen seed modules jobs) s i = ⊥

-- nothing but a file is in the way, the first that holds no module
abbrev pub FileIsBad : List (List ℕ) → FilesSeen → List ℕ → ℕ → RefusalKind → Type 0
FileIsBad names files file line kind = IsTold files.held (λ held. HoldFirstBad held names file line kind) × ¬ (Rose files.faults files.faults_now)

abbrev pub MustRefuse : Command → Seen → List ℕ → ℕ → RefusalKind → Type 0
MustRefuse (Link options out names) s = FileIsBad names s.files
MustRefuse (Index exports limit names) s = FileIsBad names s.files
MustRefuse (Batch options list) s = λ file line kind. IsTold s.files.held (λ held. HoldBatchBad options list held file line kind) × ¬ (Rose s.files.faults s.files.faults_now)
MustRefuse (Run root args steps names) s = FileIsBad names s.files
MustRefuse (Gen seed modules jobs) s = λ file line kind. ⊥

-- nothing but that the modules have no thin link
abbrev pub ModulesClash : List (List ℕ) → List (List ℕ) → FilesSeen → Refusal → Type 0
ModulesClash exports names files why = IsTold files.held (λ held. HoldUnlinked exports names held why) × ¬ (Rose files.faults files.faults_now)

abbrev pub MustNotLink : Command → Seen → Refusal → Type 0
MustNotLink (Link options out names) s = λ why. IsTold s.files.held (λ held. HoldUnlinkable options names held why) × ¬ (Rose s.files.faults s.files.faults_now)
MustNotLink (Index exports limit names) s = ModulesClash exports names s.files
MustNotLink (Batch options list) s = λ why. IsTold s.files.held (λ held. HoldBatchUnlinkable options list held why) × ¬ (Rose s.files.faults s.files.faults_now)
MustNotLink (Run root args steps names) s = ModulesClash (root ∷ []) names s.files
MustNotLink (Gen seed modules jobs) s = λ why. ⊥

-- nothing but that the root of a run isn't a function that takes the arguments
pub record CannotBegin (root : List ℕ) (args : List Decimal) (names : List (List ℕ)) (files : FilesSeen) (name : List ℕ) : Type 0 where
  pub named : name ≡ root
  pub none : IsTold files.held (λ held. OfModules (AllZip (HoldsModule held) names) root names (λ ms. beginning (merged ms) root args ≡ None))
  pub fine : ¬ (Rose files.faults files.faults_now)

abbrev pub MustNotBegin : Command → Seen → List ℕ → Type 0
MustNotBegin (Link options out names) s = λ name. ⊥
MustNotBegin (Index exports limit names) s = λ name. ⊥
MustNotBegin (Batch options list) s = λ name. ⊥
MustNotBegin (Run root args steps names) s = CannotBegin root args names s.files
MustNotBegin (Gen seed modules jobs) s = λ name. ⊥

-- nothing but that a run ends otherwise than by returning
pub record CannotReturn (root : List ℕ) (args : List Decimal) (steps : ℕ) (names : List (List ℕ)) (s : Seen) (i : RestSeen) (why : Refusal) : Type 0 where
  pub ending : Ending
  pub comes : RunIsTold root args steps names s i ending why
  pub work : AllWork s i

abbrev pub MustNotReturn : Command → Seen → RestSeen → Refusal → Type 0
MustNotReturn (Link options out names) s i = λ why. ⊥
MustNotReturn (Index exports limit names) s i = λ why. ⊥
MustNotReturn (Batch options list) s i = λ why. ⊥
MustNotReturn (Run root args steps names) s i = CannotReturn root args steps names s i
MustNotReturn (Gen seed modules jobs) s i = λ why. ⊥
