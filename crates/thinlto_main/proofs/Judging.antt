-- What is true of each answer for words, over what was seen.
use Rattle.std.proofs.Common.{ℕ, List, OnOk, Result}
use Rattle.link_one.specs.Laws.{AcceptedIsNotRefused, AcceptedIsOne, RefusedIsOne}
use Rattle.link_one.specs.LinkedLaws.{UnlinkedIsOne}
use Rattle.lto_fault.specs.declared.kind.RefusalKind.{RefusalKind}
use Rattle.lto_fault.specs.declared.refusal.Refusal.{Refusal}
use Rattle.lto_outside.specs.Calls.{Call, DidNoPut}
use Rattle.lto_outside.specs.Replay.{Follows}
use Rattle.lto_outside.specs.Store.{Stays}
use Rattle.lto_words.specs.Laws.{OneCommand}
use Rattle.lto_words.specs.declared.request.Command.{Command}
use Rattle.thin_link.specs.Laws.{RefusalIsOne, ReportIsOne, ReportedIsNotRefused}
use Rattle.thinlto_main.specs.Answers.{IsRefusal, IsUnfitted, IsUnlinked, IsUnreturned, Succeeds, causes, causes_of}
use Rattle.thinlto_main.specs.Asking.{AskNothing, Asked}
use Rattle.run_program.specs.Causes.{Causes, Comes, OnNoMemory, OnReadFault, OnRefused, OnUnfit, OnUnlinked, OnUnreturned, OnUnused, OnUnwritten, OnUsage, OnWriteFault}
use Rattle.thinlto_main.specs.Seen.{RestSeen, Seen, Untouched}
use Rattle.thinlto_main.specs.Telling.{CanDo, MustNotBegin, MustNotLink, MustNotReturn, MustRefuse, told, told_of}
use Rattle.thinlto_main.proofs.Asking.{asked_refused, asked_unfit, asked_unlinked, calm_before, of_command, told_so}
use Rattle.run_program.proofs.Causes.{Implies, both_imply, comes_map, on_done, on_no_memory, on_read_fault, on_refused, on_unfit, on_unlinked, on_unreturned, on_unused, on_unwritten_map, on_usage, on_write_fault}
use Rattle.thinlto_main.proofs.Completing.{begins_none, clashes, completes, refuses, returns_none, telling}
use Rattle.thinlto_main.proofs.Held.{follows_same}
use Rattle.thinlto_main.proofs.Telling.{tell}

-- what is true of commands, links and modules
pub record Laws : Type 0 where
  pub command : OneCommand
  pub apart : AcceptedIsNotRefused
  pub accepted : AcceptedIsOne
  pub refused : RefusedIsOne
  pub reported : ReportedIsNotRefused
  pub report : ReportIsOne
  pub refusal : RefusalIsOne
  pub unlinked : UnlinkedIsOne

pub record Judged {A : Type 0} (words : List (List ℕ)) (s : Seen) (i : RestSeen) (r : Result A Refusal) : Type 0 where
  pub usage : OnUsage r (AskNothing words × Untouched s × i.untaken)
  pub cannot_read : OnReadFault r (λ name. Asked words (λ c. (causes c s i).unread name))
  pub refused : OnRefused r (λ file line kind. Asked words (λ c. (causes c s i).refused file line kind))
  pub unlinked : OnUnlinked r (λ why. Asked words (λ c. (causes c s i).unlinked why))
  pub unfit : OnUnfit r (λ name. Asked words (λ c. (causes c s i).unfit name))
  pub cannot_write : OnWriteFault r (λ name. Asked words (λ c. (causes c s i).unwritten name))
  pub out_of_memory : OnNoMemory r ((causes_of words s i).memory)
  pub unreturned : OnUnreturned r (λ why. Asked words (λ c. (causes c s i).unreturned why))
  pub done : OnOk r (Asked words (λ c. (causes c s i).done))
  pub holds_done : OnOk r (Asked words (λ c. (told c s i).done))
  pub holds_part : OnWriteFault r (λ name. Asked words (λ c. (told c s i).unwritten name))
  pub holds_refused : OnRefused r (λ file line kind. Asked words (λ c. (told c s i).refused file line kind))
  pub holds_unlinked : OnUnlinked r (λ why. Asked words (λ c. (told c s i).unlinked why))
  pub holds_unfit : OnUnfit r (λ name. Asked words (λ c. (told c s i).unfit name))
  pub holds_unreturned : OnUnreturned r (λ why. Asked words (λ c. (told c s i).unreturned why))
  pub stay : OnUnwritten r (Stays s.files.held s.files.holds)
  pub complete : Asked words (λ c. CanDo c s i) → Succeeds r
  pub complete_refusal : (file : List ℕ) (line : ℕ) (kind : RefusalKind) → Asked words (λ c. MustRefuse c s file line kind) → IsRefusal r file line kind
  pub complete_unlinked : (why : Refusal) → Asked words (λ c. MustNotLink c s why) → IsUnlinked r why
  pub complete_unfit : (name : List ℕ) → Asked words (λ c. MustNotBegin c s name) → IsUnfitted r name
  pub complete_unreturned : (why : Refusal) → Asked words (λ c. MustNotReturn c s i why) → IsUnreturned r why
  pub no_put : OnUnwritten r (DidNoPut s.files.did)
  pub unused : OnUnused r (i.untaken × s.unprinted)

module _ {A : Type 0} (laws : Laws) (words : List (List ℕ)) (s : Seen) (i : RestSeen) (tells : (calls : List Call) → s.files.did calls → Follows s.files.held calls s.files.holds) (r : Result A Refusal) (come : Comes (causes_of words s i) r) where
  says : (c : Command) → Implies (causes c s i) (told c s i)
  says = tell laws.accepted laws.report s tells i

  told_comes : Comes (told_of words s i) r
  told_comes = comes_map (told_so words s i says) r come

  calm : OnUnwritten r (DidNoPut s.files.did)
  calm = comes_map (calm_before words s i) r come

  -- what the telling of a command's answers rules out
  ruled : {k : Causes} (P : Command → Type 0) → ((c : Command) → P c → Implies (telling c s i) k) → Asked words P → Comes k r
  ruled P rules asked = comes_map (both_imply (of_command words s i says laws.command asked.command asked.is asked.offered) (rules asked.command asked.so)) r come

  pub judge : Judged words s i r
  judge = record {
    usage = on_usage (causes_of words s i) r come;
    cannot_read = on_read_fault (causes_of words s i) r come;
    refused = on_refused (causes_of words s i) r come;
    unlinked = on_unlinked (causes_of words s i) r come;
    unfit = on_unfit (causes_of words s i) r come;
    cannot_write = on_write_fault (causes_of words s i) r come;
    out_of_memory = on_no_memory (causes_of words s i) r come;
    unreturned = on_unreturned (causes_of words s i) r come;
    done = on_done (causes_of words s i) r come;
    holds_done = on_done (told_of words s i) r told_comes;
    holds_part = on_write_fault (told_of words s i) r told_comes;
    holds_refused = on_refused (told_of words s i) r told_comes;
    holds_unlinked = on_unlinked (told_of words s i) r told_comes;
    holds_unfit = on_unfit (told_of words s i) r told_comes;
    holds_unreturned = on_unreturned (told_of words s i) r told_comes;
    stay = on_unwritten_map _ _ (λ calm. follows_same s.files.held s.files.holds calm.calls calm.no_put (tells calm.calls calm.made)) r calm;
    complete = λ asked. ruled _ (completes laws.apart laws.accepted s i) asked;
    complete_refusal = λ file line kind asked. ruled _ (λ c must. refuses laws.apart laws.accepted s i laws.refused c file line kind must) asked;
    complete_unlinked = λ why asked. ruled _ (λ c must. clashes laws.apart laws.accepted s i laws.reported laws.refusal laws.unlinked c why must) asked;
    complete_unfit = λ name asked. ruled _ (λ c must. begins_none laws.apart laws.accepted s i c name must) asked;
    complete_unreturned = λ why asked. ruled _ (λ c must. returns_none laws.apart laws.accepted s i c why must) asked;
    no_put = calm;
    unused = on_unused (causes_of words s i) r come (i.untaken × s.unprinted) (λ x. (x.2, x.1.1)) (asked_refused s i words) (asked_unlinked s i words) (asked_unfit s i words);
  }
