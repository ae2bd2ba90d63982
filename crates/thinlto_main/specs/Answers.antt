-- When each answer of the program comes.
use Rattle.std.specs.Prelude.{◌≡◌, ◌⊎◌, ℕ, true, false, List, Result}
use Rattle.lto_fault.specs.declared.kind.RefusalKind.{RefusalKind}
use Rattle.lto_fault.specs.declared.refusal.Refusal.{Refusal}
use Rattle.lto_words.specs.declared.request.Command.{Command}
use Rattle.lto_words.specs.declared.request.Command.TheVariants.{Link, Batch, Index, Run, Gen}
use Rattle.thinlto_main.specs.Asking.{AskNothing, Asked, is_offered}
use Rattle.run_program.specs.Causes.{Causes, Comes, never}
use Rattle.thinlto_main.specs.Batching.{batching}
use Rattle.thinlto_main.specs.Honest.{IsTrustedBy}
use Rattle.thinlto_main.specs.Linking.{linking}
use Rattle.thinlto_main.specs.Modules.{AreRead, deciding}
use Rattle.thinlto_main.specs.Reporting.{DidReport, ReportCannotWrite}
use Rattle.thinlto_main.specs.Running.{SaysReturned, running}
use Rattle.thinlto_main.specs.Seen.{RestSeen, Seen, Untouched, streams_of}
use Rattle.run_program.specs.Streams.{Notes}

-- beside the fact of each answer this one
abbrev pub with_fact : Type 0 → Causes → Causes
with_fact P k = record {
  done = k.done × P;
  usage = k.usage × P;
  unread = λ name. k.unread name × P;
  refused = λ file line kind. k.refused file line kind × P;
  unlinked = λ why. k.unlinked why × P;
  unfit = λ name. k.unfit name × P;
  unwritten = λ name. k.unwritten name × P;
  unreturned = λ why. k.unreturned why × P;
  memory = k.memory × P;
}

abbrev pub reporting : List (List ℕ) → ℕ → List (List ℕ) → Seen → Causes
reporting exports limit names s = record (with_fact s.unprinted (deciding exports names s.files)) {
  done = DidReport exports names limit s true;
  unwritten = ReportCannotWrite exports names limit s;
}

-- the cause of each answer: a case for each command, of which a run alone takes input
abbrev pub causes : Command → Seen → RestSeen → Causes
causes (Link options out names) s i = with_fact i.untaken (with_fact s.unprinted (linking options out names (IsTrustedBy options i.honest) s.files))
causes (Index exports limit names) s i = with_fact i.untaken (reporting exports limit names s)
causes (Batch options list) s i = with_fact i.untaken (with_fact s.unprinted (batching options list (IsTrustedBy options i.honest) s.files))
causes (Run root args steps names) s i = running root args steps names s.files (streams_of s i)
causes (Gen seed modules jobs) s i = never

-- of a command that is done, or is none of those that the program does
abbrev pub obeyed : Command → Seen → RestSeen → Causes
obeyed c s i = record (with_fact (is_offered c ≡ true) (causes c s i)) {
  usage = (is_offered c ≡ false) × Untouched s × i.untaken;
}

-- of words; memory may run out where they are read
abbrev pub causes_of : List (List ℕ) → Seen → RestSeen → Causes
causes_of words s i = record {
  done = Asked words (λ c. (causes c s i).done);
  usage = AskNothing words × Untouched s × i.untaken;
  unread = λ name. Asked words (λ c. (causes c s i).unread name);
  refused = λ file line kind. Asked words (λ c. (causes c s i).refused file line kind);
  unlinked = λ why. Asked words (λ c. (causes c s i).unlinked why);
  unfit = λ name. Asked words (λ c. (causes c s i).unfit name);
  unwritten = λ name. Asked words (λ c. (causes c s i).unwritten name);
  unreturned = λ why. Asked words (λ c. (causes c s i).unreturned why);
  memory = (Untouched s × i.untaken) ⊎ Asked words (λ c. (causes c s i).memory);
}

-- what the notes got where the command was done: of a run its line, and else nothing
abbrev pub Says : Command → Seen → RestSeen → Notes → Type 0
Says (Link options out names) s i notes = notes.silent
Says (Batch options list) s i notes = notes.silent
Says (Index exports limit names) s i notes = notes.silent
Says (Run root args steps names) s i notes = SaysReturned (AreRead names s.files.did) root args steps names (streams_of s i) notes
Says (Gen seed modules jobs) s i notes = notes.silent

-- ---- what has to come, unless memory runs out

abbrev pub Succeeds : {A : Type 0} → Result A Refusal → Type 0
Succeeds r = Comes (record never { done = Unit {0}; memory = Unit {0} }) r

abbrev pub IsRefusal : {A : Type 0} → Result A Refusal → List ℕ → ℕ → RefusalKind → Type 0
IsRefusal r file line kind = Comes (record never { refused = λ f l k. (f ≡ file) × (l ≡ line) × (k ≡ kind); memory = Unit {0} }) r

abbrev pub IsUnlinked : {A : Type 0} → Result A Refusal → Refusal → Type 0
IsUnlinked r why = Comes (record never { unlinked = λ told. told ≡ why; memory = Unit {0} }) r

-- that the root doesn't take the arguments
abbrev pub IsUnfitted : {A : Type 0} → Result A Refusal → List ℕ → Type 0
IsUnfitted r name = Comes (record never { unfit = λ told. told ≡ name; memory = Unit {0} }) r

-- that a run ended otherwise than by returning
abbrev pub IsUnreturned : {A : Type 0} → Result A Refusal → Refusal → Type 0
IsUnreturned r why = Comes (record never { unreturned = λ told. told ≡ why; memory = Unit {0} }) r
