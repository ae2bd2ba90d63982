-- The causes of answers, where the files tell what they hold.
use Rattle.std.proofs.Common.{ℕ, ◌≡◌, ◌⊎◌, ◌∙◌, Bool, true, false, List, [], ◌∷◌, ◌++◌, Option, Some, None, length, subst, inl, inr}
use Rattle.std.specs.List.{AllZip}
use Rattle.std.specs.Prelude.{IfSome}
use Rattle.ir_tree.specs.declared.module.Module.{Module}
use Rattle.link_one.specs.Laws.{AcceptedIsOne}
use Rattle.lto_fault.specs.declared.kind.RefusalKind.{RefusalKind}
use Rattle.lto_fault.specs.declared.refusal.Refusal.{Refusal}
use Rattle.lto_words.specs.Fetching.{fetch_calls}
use Rattle.lto_outside.specs.Calls.{Call, Put}
use Rattle.lto_outside.specs.Cause.{Rose}
use Rattle.lto_outside.specs.Replay.{Follows}
use Rattle.lto_outside.specs.Seen.{FilesSeen}
use Rattle.lto_outside.specs.Store.{HasPart, HasPut, IsPart, SameFiles, Stays, Store}
use Rattle.lto_words.specs.declared.list.Decimal.{Decimal}
use Rattle.lto_words.specs.declared.request.Command.{Command}
use Rattle.lto_words.specs.declared.request.Command.TheVariants.{Link, Batch, Index, Run, Gen}
use Rattle.thin_link.specs.Laws.{ReportIsOne}
use Rattle.thin_link.specs.Linking.{IsIndexReport}
use Rattle.thinlto_main.specs.Answers.{causes}
use Rattle.thinlto_main.specs.Batching.{LinkCannotRead, ListIsBad, fetching}
use Rattle.thinlto_main.specs.Honest.{IsTrustedBy}
use Rattle.thinlto_main.specs.BatchHolding.{HoldBatchBad}
use Rattle.run_program.specs.Causes.{Causes}
use Rattle.thinlto_main.specs.Linking.{CannotBeLinked, DidLink}
use Rattle.thinlto_main.specs.Modules.{AreFetched, AreRead, CannotLink, CannotRead}
use Rattle.thinlto_main.specs.Reporting.{DidReport}
use Rattle.thinlto_main.specs.Running.{OfModules, running, running_by}
use Rattle.run_program.specs.Merged.{merged_causes}
use Rattle.thinlto_main.specs.Seen.{RestSeen, Seen, streams_of}
use Rattle.run_program.specs.Streams.{Streams}
use Rattle.thinlto_main.specs.Holding.{Held, HoldFirstBad, HoldLink, HoldUnlinkable, HoldUnlinked, LinkHeld}
use Rattle.thinlto_main.specs.Telling.{HoldReport, told, told_files}
use Rattle.run_program.proofs.Causes.{Implies}
use Rattle.thinlto_main.proofs.BatchHeld.{bad_list_told, done_told, hold_if_made, hold_linkable, hold_unlinkable, part_told, stop_told}
use Rattle.thinlto_main.proofs.Held.{Gives, fetches_give, fetches_then, follows_same, held_first_bad, held_modules, one_list}
use Rattle.run_program.proofs.Mapping.{if_some_map}
use Rattle.thinlto_main.proofs.Reading.{no_put_fetches}
use Rattle.lto_words.specs.declared.request.LinkOptions.{LinkOptions}

-- ---- fetches

given_told : (old new : Option Store) (names : List (List ℕ)) (given : List (Option (List ℕ))) → length given ≡ length names → Follows old (fetch_calls names given) new
    → IfSome old (λ held. AllZip (Gives held) names given)
given_told None new names given each f = tt
given_told (Some old) None names given each f = absurd f
given_told (Some old) (Some new) names given each f = fetches_give old new names given each f

module _ (files : FilesSeen) (tells : (calls : List Call) → files.did calls → Follows files.held calls files.holds) where
  fetched_told : (names : List (List ℕ)) (given : List (Option (List ℕ))) → AreFetched names given files.did → IfSome files.held (λ held. AllZip (Gives held) names given)
  fetched_told names given f = given_told files.held files.holds names given f.each (tells _ f.calls)

  fetched_stay : (names : List (List ℕ)) (given : List (Option (List ℕ))) → AreFetched names given files.did → Stays files.held files.holds
  fetched_stay names given f = follows_same files.held files.holds _ (no_put_fetches names given) (tells _ f.calls)

  pub bad_told : (names : List (List ℕ)) (file : List ℕ) (line : ℕ) (kind : RefusalKind) → CannotRead names files file line kind → IfSome files.held (λ held. HoldFirstBad held names file line kind)
  bad_told names file line kind r = if_some_map _ _ (λ held gives. held_first_bad held names r.given file line kind gives r.first) files.held (fetched_told names r.given r.fetched)

  held_told : (names : List (List ℕ)) (ms : List Module) → AreRead names files.did ms → Held names files ms
  held_told names ms r = if_some_map _ _ (λ held gives. held_modules held names r.given ms gives r.read) files.held (fetched_told names r.given r.fetched)

  pub modules_told : (root : List ℕ) (names : List (List ℕ)) (P : List Module → Type 0) → OfModules (AreRead names files.did) root names P → OfModules (Held names files) root names P
  modules_told root names P o = record { ms = o.ms; is = held_told names o.ms o.is; linked = o.linked; so = o.so }

  pub modules_stay : (root : List ℕ) (names : List (List ℕ)) (P : List Module → Type 0) → OfModules (AreRead names files.did) root names P → Stays files.held files.holds
  modules_stay root names P o = fetched_stay names o.is.given o.is.fetched

  pub unlinkable_told : (options : LinkOptions) (names : List (List ℕ)) (why : Refusal) → CannotBeLinked options names files why → IfSome files.held (λ held. HoldUnlinkable options names held why)
  unlinkable_told options names why r =
      if_some_map _ _ (λ held gives. hold_unlinkable held options names r.given why gives r.unlinkable) files.held (fetched_told names r.given r.fetched)

  pub unlinked_told : (exports names : List (List ℕ)) (why : Refusal) → CannotLink exports names files why → IfSome files.held (λ held. HoldUnlinked exports names held why)
  unlinked_told exports names why r =
      if_some_map _ _ (λ held gives. record { ms = r.ms; modules = held_modules held names r.read.given r.ms gives r.read.read; refused = r.refused }) files.held (fetched_told names r.read.given r.read.fetched)

-- ---- what a link put

module _ (options : LinkOptions) (out : List ℕ) (names : List (List ℕ)) (trusted : Type 0) (files : FilesSeen) where
  linked_held : (put : Store → Store → List ℕ → List ℕ → Type 0) (done : Bool) (d : DidLink options out names trusted files done) (old new : Store) → AllZip (Gives old) names d.given → put old new out d.text
      → HoldLink put options out names trusted old new
  linked_held put done d old new gives there = record {
    linkable = hold_linkable old options names d.given gives d.linkable;
    text = d.text;
    made = hold_if_made old options trusted names d.given d.text gives d.made;
    put_there = there;
  }

  held_done : (d : DidLink options out names trusted files true) (old new : Option Store) → Follows old (fetch_calls names d.given ++ Put out d.text true ∷ []) new → LinkHeld HasPut options out names trusted old new
  held_done d None new f = tt
  held_done d (Some old) None f = f
  held_done d (Some old) (Some new) f =
      let both = fetches_then old new names d.given (Put out d.text true ∷ []) d.each f in
      linked_held HasPut true d old new both.0 (record { written = both.1.2 out ∙ both.1.1.written; others = λ other differs. both.1.2 other ∙ both.1.1.others other differs })

  part_behind : (old next new : Store) (text : List ℕ) → IsPart old next out text → SameFiles next new → IsPart old new out text
  part_behind old next new text (inl is) same = inl (same out ∙ is)
  part_behind old next new text (inr (count, is)) same = inr (count, same out ∙ is)

  held_part : (d : DidLink options out names trusted files false) (old new : Option Store) → Follows old (fetch_calls names d.given ++ Put out d.text false ∷ []) new → LinkHeld HasPart options out names trusted old new
  held_part d None new f = tt
  held_part d (Some old) None f = f
  held_part d (Some old) (Some new) f =
      let both = fetches_then old new names d.given (Put out d.text false ∷ []) d.each f in
      linked_held HasPart false d old new both.0
      (record { part = part_behind old both.1.0 new d.text both.1.1.part both.1.2; others = λ other differs. both.1.2 other ∙ both.1.1.others other differs })

-- ---- each command

module _ (accepted : AcceptedIsOne) (one : ReportIsOne) (s : Seen) (tells : (calls : List Call) → s.files.did calls → Follows s.files.held calls s.files.holds) where
  report_told : (exports names : List (List ℕ)) (limit : ℕ) (done : Bool) → DidReport exports names limit s done → Stays s.files.held s.files.holds × IfSome s.files.held (HoldReport exports names limit s done)
  report_told exports names limit done d = (fetched_stay s.files tells names d.given d.fetched, if_some_map _ _ by s.files.held (fetched_told s.files tells names d.given d.fetched))
    where
      by : (held : Store) → AllZip (Gives held) names d.given → HoldReport exports names limit s done held
      by held gives = record {
        ms = d.is_report.ms;
        text = d.text;
        modules = held_modules held names d.given d.is_report.ms gives d.is_report.read;
        report = d.is_report.is;
        only =
            λ others other modules is.
            one names exports d.is_report.ms limit other d.text
            (subst (λ (ns : List Module). IsIndexReport names ns exports limit other) (one_list held accepted names others d.is_report.ms modules (held_modules held names d.given d.is_report.ms gives d.is_report.read)) is)
            d.is_report.is;
        sent = d.sent;
      }

  -- ---- a run

  module _ (root : List ℕ) (args : List Decimal) (steps : ℕ) (names : List (List ℕ)) (t : Streams) where
    abbrev comes_to : (Causes → Type 0) → List Module → Type 0
    comes_to fact ms = fact (merged_causes root args steps names t ms)

    moved : (fact : Causes → Type 0) → OfModules (AreRead names s.files.did) root names (comes_to fact) → OfModules (Held names s.files) root names (comes_to fact)
    moved fact o = modules_told s.files tells root names (comes_to fact) o

    unread_told : (name : List ℕ) → (running root args steps names s.files t).unread name → (running_by (Held names s.files) (told_files (root ∷ []) names s.files) root args steps names t).unread name
    unread_told name (inl x) = inl (x.0.rose, x.1)
    unread_told name (inr o) = inr (moved (λ (k : Causes). k.unread name) o)

    memory_told : (running root args steps names s.files t).memory → (running_by (Held names s.files) (told_files (root ∷ []) names s.files) root args steps names t).memory
    memory_told (inl x) = inl (tt, x.1)
    memory_told (inr o) = inr (moved (λ (k : Causes). k.memory) o)

  -- ---- a batch

  batch_unread : (list name : List ℕ) → (fetching list s.files).unread name → Rose s.files.faults s.files.faults_now
  batch_unread list name (inl x) = x.rose
  batch_unread list name (inr x) = x.rose

  batch_refused : (options : LinkOptions) (list file : List ℕ) (line : ℕ) (kind : RefusalKind) → ListIsBad list s.files file line kind ⊎ LinkCannotRead options list s.files file line kind → IfSome s.files.held (λ held. HoldBatchBad options list held file line kind)
  batch_refused options list file line kind (inl x) = if_some_map _ _ (λ held bad. inl (x.named, bad)) s.files.held (bad_list_told options list s.files tells file line kind x)
  batch_refused options list file line kind (inr x) =
      if_some_map _ _ (λ held stop. inr stop) s.files.held
      (stop_told options list s.files tells _ (λ held link. HoldFirstBad held link.files file line kind) (λ held link given gives bad. held_first_bad held link.files given file line kind gives bad) x)

  pub tell : (i : RestSeen) (c : Command) → Implies (causes c s i) (told c s i)
  tell i (Link options out names) = record {
    done = λ x. held_done options out names (IsTrustedBy options i.honest) s.files x.0.0 s.files.held s.files.holds (tells _ x.0.0.calls);
    usage = λ x. absurd x.0.0;
    unread = λ name x. x.0.0.rose;
    refused = λ file line kind x. bad_told s.files tells names file line kind x.0.0;
    unlinked = λ why x. unlinkable_told s.files tells options names why x.0.0;
    unfit = λ name x. absurd x.0.0;
    unwritten = λ name x. (held_part options out names (IsTrustedBy options i.honest) s.files x.0.0.did_link s.files.held s.files.holds (tells _ x.0.0.did_link.calls), x.0.0.rose);
    unreturned = λ why x. absurd x.0.0;
    memory = λ x. tt;
  }
  tell i (Index exports limit names) = record {
    done = λ x. report_told exports names limit true x.0;
    usage = λ x. absurd x.0.0;
    unread = λ name x. x.0.0.rose;
    refused = λ file line kind x. bad_told s.files tells names file line kind x.0.0;
    unlinked = λ why x. unlinked_told s.files tells exports names why x.0.0;
    unfit = λ name x. absurd x.0.0;
    unwritten = λ name x. report_told exports names limit false x.0.did_report;
    unreturned = λ why x. absurd x.0.0;
    memory = λ x. tt;
  }
  tell i (Batch options list) = record {
    done = λ x. done_told options list (IsTrustedBy options i.honest) s.files tells x.0.0;
    usage = λ x. absurd x.0.0;
    unread = λ name x. batch_unread list name x.0.0;
    refused = λ file line kind x. batch_refused options list file line kind x.0.0;
    unlinked = λ why x. stop_told options list s.files tells _ (λ held link. HoldUnlinkable options link.files held why) (λ held link given gives u. hold_unlinkable held options link.files given why gives u) x.0.0;
    unfit = λ name x. absurd x.0.0;
    unwritten = λ name x. (part_told options list (IsTrustedBy options i.honest) s.files tells name x.0.0, x.0.0.rose);
    unreturned = λ why x. absurd x.0.0;
    memory = λ x. tt;
  }
  tell i (Run root args steps names) = record {
    done = λ x. (modules_stay s.files tells root names _ x, moved root args steps names (streams_of s i) (λ (k : Causes). k.done) x);
    usage = λ x. x;
    unread = λ name x. unread_told root args steps names (streams_of s i) name x;
    refused = λ file line kind x. (bad_told s.files tells names file line kind x.0, x.1);
    unlinked = λ why x. (unlinked_told s.files tells (root ∷ []) names why x.0, x.1);
    unfit = λ name x. moved root args steps names (streams_of s i) (λ (k : Causes). k.unfit name) x;
    unwritten = λ name x. (modules_stay s.files tells root names _ x, moved root args steps names (streams_of s i) (λ (k : Causes). k.unwritten name) x);
    unreturned = λ why x. moved root args steps names (streams_of s i) (λ (k : Causes). k.unreturned why) x;
    memory = λ x. memory_told root args steps names (streams_of s i) x;
  }
  tell i (Gen seed modules jobs) = record { done = λ x. x; usage = λ x. x; unread = λ n x. x; refused = λ f l k x. x; unlinked = λ w x. x; unfit = λ n x. x; unwritten = λ n x. x; unreturned = λ w x. x; memory = λ x. x }
