-- From a command to the words that ask for it, and back.
use Rattle.std.proofs.Common.{ℕ, ◌≡◌, ◌⊎◌, true, List, [], ◌∷◌, ◌++◌, OnErr, OnOk, Option, Some, None, Result, Ok, Err, ap, inl, inr, refl, subst}
use Rattle.lto_fault.specs.declared.kind.RefusalKind.{RefusalKind}
use Rattle.lto_fault.specs.declared.refusal.Refusal.{Refusal}
use Rattle.lto_words.specs.Fetching.{FetchFailed, fetch_call, fetch_calls}
use Rattle.lto_words.specs.Links.{all_files}
use Rattle.lto_outside.specs.Calls.{Call, DidNoPut, Fetched, NoPut, Put}
use Rattle.lto_outside.specs.DiskStore.{DiskStore}
use Rattle.lto_outside.specs.Seen.{FilesSeen}
use Rattle.lto_outside.specs.declared.fault.FetchFault.TheVariants.{Fault}
use Rattle.lto_words.specs.Commands.{IsCommand}
use Rattle.lto_words.specs.Laws.{OneCommand}
use Rattle.lto_words.specs.declared.list.Decimal.{Decimal}
use Rattle.lto_words.specs.declared.request.Command.{Command}
use Rattle.lto_words.specs.declared.request.Command.TheVariants.{Link, Batch, Index, Run, Gen}
use Rattle.lto_words.specs.declared.request.LinkOptions.{LinkOptions}
use Rattle.thinlto_main.specs.Answers.{Says, causes, causes_of, obeyed, reporting}
use Rattle.thinlto_main.specs.Asking.{Asked, is_offered}
use Rattle.run_program.specs.Causes.{Causes, Comes, always}
use Rattle.thinlto_main.specs.Batching.{LinkCannotRead, ListIsBad, batching, fetching}
use Rattle.thinlto_main.specs.Honest.{IsTrustedBy}
use Rattle.thinlto_main.specs.Keys.{LeavesDisk}
use Rattle.thinlto_main.specs.Linking.{linking}
use Rattle.thinlto_main.specs.Running.{running}
use Rattle.thinlto_main.specs.Seen.{RestSeen, Seen, Untouched, streams_of}
use Rattle.run_program.specs.Streams.{Notes}
use Rattle.thinlto_main.specs.Telling.{told, told_of}
use Rattle.run_program.proofs.Causes.{Implies}
use Rattle.thinlto_main.proofs.Batching.{given_no_put}
use Rattle.thinlto_main.proofs.Completing.{telling}
use Rattle.thinlto_main.proofs.Reading.{fetched_no_put, no_put_fetches}

-- an answer for a command is one for its words
pub asked_for : OneCommand → (words : List (List ℕ)) (c : Command) (s : Seen) (i : RestSeen) → IsCommand words c → Implies (obeyed c s i) (causes_of words s i)
asked_for one words c s i is = record {
  done = λ x. record { command = c; is = is; offered = x.1; so = x.0 };
  usage = λ x. (λ d asked offered. let same : is_offered d ≡ is_offered c = ap is_offered (one words d c asked is) in let no : ⊥ = cc (same, offered, x.0) in no, x.1, x.2);
  unread = λ name x. record { command = c; is = is; offered = x.1; so = x.0 };
  refused = λ file line kind x. record { command = c; is = is; offered = x.1; so = x.0 };
  unlinked = λ why x. record { command = c; is = is; offered = x.1; so = x.0 };
  unfit = λ name x. record { command = c; is = is; offered = x.1; so = x.0 };
  unwritten = λ name x. record { command = c; is = is; offered = x.1; so = x.0 };
  unreturned = λ why x. record { command = c; is = is; offered = x.1; so = x.0 };
  memory = λ x. inr (record { command = c; is = is; offered = x.1; so = x.0 });
}

-- and so is what is said
pub said_for : {A : Type 0} (words : List (List ℕ)) (c : Command) (s : Seen) (i : RestSeen) (notes : Notes) → IsCommand words c → (r : Result A Refusal) → Comes (obeyed c s i) r → OnOk r (Says c s i notes)
    → OnOk r (Asked words (λ d. Says d s i notes))
said_for words c s i notes is (Ok x) come says = record { command = c; is = is; offered = come.1; so = says }
said_for words c s i notes is (Err why) come says = tt

-- and so is what is left of the disk
pub asked_disk : (words : List (List ℕ)) (c : Command) → IsCommand words c → (did : List Call → Type 0) (fits : List ℕ → List ℕ → Type 0) (old new : Option DiskStore) → LeavesDisk c did fits old new
    → (new ≡ old) ⊎ Asked words (λ d. LeavesDisk d did fits old new)
asked_disk words (Link options out names) is did fits old new leaves = inr (record { command = Link options out names; is = is; offered = refl; so = leaves })
asked_disk words (Batch options list) is did fits old new leaves = inr (record { command = Batch options list; is = is; offered = refl; so = leaves })
asked_disk words (Index exports limit names) is did fits old new leaves = inl leaves
asked_disk words (Run root args steps names) is did fits old new leaves = inl leaves
asked_disk words (Gen seed modules jobs) is did fits old new leaves = inl leaves

-- what holds whatever the answer is
pub on_each : {A : Type 0} (r : Result A Refusal) (P : Type 0) → P → OnOk r P × OnErr r P
on_each (Ok x) P h = (h, tt)
on_each (Err why) P h = (tt, h)

-- what a link answers is what the command does, and so of a batch, of an index and of a run
pub link_obeyed : (options : LinkOptions) (out : List ℕ) (names : List (List ℕ)) (s : Seen) (i : RestSeen) → s.unprinted → i.untaken
    → Implies (linking options out names (IsTrustedBy options i.honest) s.files) (obeyed (Link options out names) s i)
link_obeyed options out names s i same untaken = record {
  done = λ x. (((x, same), untaken), refl);
  usage = λ x. absurd x;
  unread = λ name x. (((x, same), untaken), refl);
  refused = λ file line kind x. (((x, same), untaken), refl);
  unlinked = λ why x. (((x, same), untaken), refl);
  unfit = λ name x. absurd x;
  unwritten = λ name x. (((x, same), untaken), refl);
  unreturned = λ why x. absurd x;
  memory = λ x. (((x, same), untaken), refl);
}

pub batch_obeyed : (options : LinkOptions) (list : List ℕ) (s : Seen) (i : RestSeen) → s.unprinted → i.untaken
    → Implies (batching options list (IsTrustedBy options i.honest) s.files) (obeyed (Batch options list) s i)
batch_obeyed options list s i same untaken = record {
  done = λ x. (((x, same), untaken), refl);
  usage = λ x. absurd x;
  unread = λ name x. (((x, same), untaken), refl);
  refused = λ file line kind x. (((x, same), untaken), refl);
  unlinked = λ why x. (((x, same), untaken), refl);
  unfit = λ name x. absurd x;
  unwritten = λ name x. (((x, same), untaken), refl);
  unreturned = λ why x. absurd x;
  memory = λ x. (((x, same), untaken), refl);
}

pub index_obeyed : (exports : List (List ℕ)) (limit : ℕ) (names : List (List ℕ)) (s : Seen) (i : RestSeen) → i.untaken → Implies (reporting exports limit names s) (obeyed (Index exports limit names) s i)
index_obeyed exports limit names s i untaken = record {
  done = λ x. ((x, untaken), refl);
  usage = λ x. absurd x.0;
  unread = λ name x. ((x, untaken), refl);
  refused = λ file line kind x. ((x, untaken), refl);
  unlinked = λ why x. ((x, untaken), refl);
  unfit = λ name x. absurd x.0;
  unwritten = λ name x. ((x, untaken), refl);
  unreturned = λ why x. absurd x.0;
  memory = λ x. ((x, untaken), refl);
}

pub run_obeyed : (root : List ℕ) (args : List Decimal) (steps : ℕ) (names : List (List ℕ)) (s : Seen) (i : RestSeen)
    → Implies (running root args steps names s.files (streams_of s i)) (obeyed (Run root args steps names) s i)
run_obeyed root args steps names s i = record {
  done = λ x. (x, refl);
  usage = λ x. absurd x;
  unread = λ name x. (x, refl);
  refused = λ file line kind x. (x, refl);
  unlinked = λ why x. (x, refl);
  unfit = λ name x. (x, refl);
  unwritten = λ name x. (x, refl);
  unreturned = λ why x. (x, refl);
  memory = λ x. (x, refl);
}

-- ---- before anything is put

no_put_behind : (calls : List Call) (name : List ℕ) → NoPut calls → NoPut (calls ++ Fetched name (Err Fault) ∷ [])
no_put_behind [] name h = tt
no_put_behind (Fetched other answer ∷ calls) name h = no_put_behind calls name h
no_put_behind (Put other bytes done ∷ calls) name h = absurd h

failed_no_put : (did : List Call → Type 0) (names : List (List ℕ)) (name : List ℕ) → FetchFailed did names name → DidNoPut did
failed_no_put did names name f = record { calls = fetch_calls f.before f.given ++ Fetched name (Err Fault) ∷ []; made = f.calls; no_put = no_put_behind (fetch_calls f.before f.given) name (no_put_fetches f.before f.given) }

untouched_no_put : (s : Seen) → Untouched s → DidNoPut s.files.did
untouched_no_put s u = record { calls = []; made = u.0; no_put = tt }

abbrev pub calmly : Type 0 → Causes
calmly P = record (always P) { done = Unit {0}; unwritten = λ name. Unit {0} }

module _ (root : List ℕ) (args : List Decimal) (steps : ℕ) (names : List (List ℕ)) (s : Seen) (i : RestSeen) where
  run_unread : (name : List ℕ) → (causes (Run root args steps names) s i).unread name → DidNoPut s.files.did
  run_unread name (inl x) = failed_no_put s.files.did names name x.0.failed
  run_unread name (inr o) = fetched_no_put names o.is.given s.files.did o.is.fetched

  run_memory : (causes (Run root args steps names) s i).memory → DidNoPut s.files.did
  run_memory (inl x) = x.0
  run_memory (inr o) = fetched_no_put names o.is.given s.files.did o.is.fetched

module _ (options : LinkOptions) (list : List ℕ) (files : FilesSeen) where
  batch_unread : (name : List ℕ) → (fetching list files).unread name → DidNoPut files.did
  batch_unread name (inl x) = failed_no_put files.did (list ∷ []) name x.failed
  batch_unread name (inr x) =
      let first = failed_no_put (λ calls. files.did (Fetched list (Ok x.bytes) ∷ calls)) (all_files x.links) name x.failed in
      record { calls = Fetched list (Ok x.bytes) ∷ first.calls; made = first.made; no_put = first.no_put }

  list_bad : (given : Option (List ℕ)) → files.did (fetch_call list given ∷ []) → DidNoPut files.did
  list_bad None made = record { calls = fetch_call list None ∷ []; made = made; no_put = tt }
  list_bad (Some bytes) made = record { calls = fetch_call list (Some bytes) ∷ []; made = made; no_put = tt }

  batch_refused : (file : List ℕ) (line : ℕ) (kind : RefusalKind) → ListIsBad list files file line kind ⊎ LinkCannotRead options list files file line kind → DidNoPut files.did
  batch_refused file line kind (inl x) = list_bad x.given x.calls
  batch_refused file line kind (inr x) = given_no_put list x.links x.given files.did x.fetched

calm : (s : Seen) (i : RestSeen) (c : Command) → Implies (causes c s i) (calmly (DidNoPut s.files.did))
calm s i (Link options out names) = record {
  done = λ x. tt;
  usage = λ x. absurd x.0.0;
  unread = λ name x. failed_no_put s.files.did names name x.0.0.failed;
  refused = λ file line kind x. fetched_no_put names x.0.0.given s.files.did x.0.0.fetched;
  unlinked = λ why x. fetched_no_put names x.0.0.given s.files.did x.0.0.fetched;
  unfit = λ name x. absurd x.0.0;
  unwritten = λ name x. tt;
  unreturned = λ why x. absurd x.0.0;
  memory = λ x. x.0.0;
}
calm s i (Index exports limit names) = record {
  done = λ x. tt;
  usage = λ x. absurd x.0.0;
  unread = λ name x. failed_no_put s.files.did names name x.0.0.failed;
  refused = λ file line kind x. fetched_no_put names x.0.0.given s.files.did x.0.0.fetched;
  unlinked = λ why x. fetched_no_put names x.0.0.read.given s.files.did x.0.0.read.fetched;
  unfit = λ name x. absurd x.0.0;
  unwritten = λ name x. tt;
  unreturned = λ why x. absurd x.0.0;
  memory = λ x. x.0.0;
}
calm s i (Batch options list) = record {
  done = λ x. tt;
  usage = λ x. absurd x.0.0;
  unread = λ name x. batch_unread options list s.files name x.0.0;
  refused = λ file line kind x. batch_refused options list s.files file line kind x.0.0;
  unlinked = λ why x. given_no_put list x.0.0.links x.0.0.given s.files.did x.0.0.fetched;
  unfit = λ name x. absurd x.0.0;
  unwritten = λ name x. tt;
  unreturned = λ why x. absurd x.0.0;
  memory = λ x. x.0.0;
}
calm s i (Run root args steps names) = record {
  done = λ x. tt;
  usage = λ x. absurd x;
  unread = λ name x. run_unread root args steps names s i name x;
  refused = λ file line kind x. fetched_no_put names x.0.given s.files.did x.0.fetched;
  unlinked = λ why x. fetched_no_put names x.0.read.given s.files.did x.0.read.fetched;
  unfit = λ name x. fetched_no_put names x.is.given s.files.did x.is.fetched;
  unwritten = λ name x. tt;
  unreturned = λ why x. fetched_no_put names x.is.given s.files.did x.is.fetched;
  memory = λ x. run_memory root args steps names s i x;
}
calm s i (Gen seed modules jobs) = record { done = λ x. tt; usage = λ x. absurd x; unread = λ n x. absurd x; refused = λ f l k x. absurd x; unlinked = λ w x. absurd x; unfit = λ n x. absurd x; unwritten = λ n x. tt; unreturned = λ w x. absurd x; memory = λ x. absurd x }

module _ (words : List (List ℕ)) (s : Seen) (i : RestSeen) where
  memory_no_put : (causes_of words s i).memory → DidNoPut s.files.did
  memory_no_put (inl x) = untouched_no_put s x.0
  memory_no_put (inr x) = (calm s i x.command).memory x.so

  pub calm_before : Implies (causes_of words s i) (calmly (DidNoPut s.files.did))
  calm_before = record {
    done = λ x. tt;
    usage = λ x. untouched_no_put s x.1;
    unread = λ name x. (calm s i x.command).unread name x.so;
    refused = λ file line kind x. (calm s i x.command).refused file line kind x.so;
    unlinked = λ why x. (calm s i x.command).unlinked why x.so;
    unfit = λ name x. (calm s i x.command).unfit name x.so;
    unwritten = λ name x. tt;
    unreturned = λ why x. (calm s i x.command).unreturned why x.so;
    memory = λ x. memory_no_put x;
  }

-- ---- before anything is printed, or taken from the input

module _ (s : Seen) (i : RestSeen) where
  refused_unused : (c : Command) (file : List ℕ) (line : ℕ) (kind : RefusalKind) → (causes c s i).refused file line kind → i.untaken × s.unprinted
  refused_unused (Link options out names) file line kind x = (x.1, x.0.1)
  refused_unused (Index exports limit names) file line kind x = (x.1, x.0.1)
  refused_unused (Batch options list) file line kind x = (x.1, x.0.1)
  refused_unused (Run root args steps names) file line kind x = x.1
  refused_unused (Gen seed modules jobs) file line kind x = absurd x

  unlinked_unused : (c : Command) (why : Refusal) → (causes c s i).unlinked why → i.untaken × s.unprinted
  unlinked_unused (Link options out names) why x = (x.1, x.0.1)
  unlinked_unused (Index exports limit names) why x = (x.1, x.0.1)
  unlinked_unused (Batch options list) why x = (x.1, x.0.1)
  unlinked_unused (Run root args steps names) why x = x.1
  unlinked_unused (Gen seed modules jobs) why x = absurd x

  unfit_unused : (c : Command) (name : List ℕ) → (causes c s i).unfit name → i.untaken × s.unprinted
  unfit_unused (Link options out names) name x = absurd x.0.0
  unfit_unused (Index exports limit names) name x = absurd x.0.0
  unfit_unused (Batch options list) name x = absurd x.0.0
  unfit_unused (Run root args steps names) name x = x.so.unused
  unfit_unused (Gen seed modules jobs) name x = absurd x

  pub asked_refused : (words : List (List ℕ)) (file : List ℕ) (line : ℕ) (kind : RefusalKind) → (causes_of words s i).refused file line kind → i.untaken × s.unprinted
  asked_refused words file line kind x = refused_unused x.command file line kind x.so

  pub asked_unlinked : (words : List (List ℕ)) (why : Refusal) → (causes_of words s i).unlinked why → i.untaken × s.unprinted
  asked_unlinked words why x = unlinked_unused x.command why x.so

  pub asked_unfit : (words : List (List ℕ)) (name : List ℕ) → (causes_of words s i).unfit name → i.untaken × s.unprinted
  asked_unfit words name x = unfit_unused x.command name x.so

-- ---- where the files tell

module _ (words : List (List ℕ)) (s : Seen) (i : RestSeen) (tell : (c : Command) → Implies (causes c s i) (told c s i)) where
  pub told_so : Implies (causes_of words s i) (told_of words s i)
  told_so = record {
    done = λ x. record { command = x.command; is = x.is; offered = x.offered; so = (tell x.command).done x.so };
    usage = λ x. tt;
    unread = λ name x. tt;
    refused = λ file line kind x. record { command = x.command; is = x.is; offered = x.offered; so = (tell x.command).refused file line kind x.so };
    unlinked = λ why x. record { command = x.command; is = x.is; offered = x.offered; so = (tell x.command).unlinked why x.so };
    unfit = λ name x. record { command = x.command; is = x.is; offered = x.offered; so = (tell x.command).unfit name x.so };
    unwritten = λ name x. record { command = x.command; is = x.is; offered = x.offered; so = (tell x.command).unwritten name x.so };
    unreturned = λ why x. record { command = x.command; is = x.is; offered = x.offered; so = (tell x.command).unreturned why x.so };
    memory = λ x. tt;
  }

  -- an answer for words is one for the command that they ask for
  pub of_command : OneCommand → (c : Command) → IsCommand words c → is_offered c ≡ true → Implies (causes_of words s i) (telling c s i)
  of_command one c is offered = record {
    done = λ x. subst (λ (d : Command). (told d s i).done) (one words x.command c x.is is) ((tell x.command).done x.so);
    usage = λ x. x.0 c is offered;
    unread = λ name x. subst (λ (d : Command). (told d s i).unread name) (one words x.command c x.is is) ((tell x.command).unread name x.so);
    refused = λ file line kind x. subst (λ (d : Command). (told d s i).refused file line kind) (one words x.command c x.is is) ((tell x.command).refused file line kind x.so);
    unlinked = λ why x. subst (λ (d : Command). (told d s i).unlinked why) (one words x.command c x.is is) ((tell x.command).unlinked why x.so);
    unfit = λ name x. subst (λ (d : Command). (told d s i).unfit name) (one words x.command c x.is is) ((tell x.command).unfit name x.so);
    unwritten = λ name x. subst (λ (d : Command). (told d s i).unwritten name) (one words x.command c x.is is) ((tell x.command).unwritten name x.so);
    unreturned = λ why x. subst (λ (d : Command). (told d s i).unreturned why) (one words x.command c x.is is) ((tell x.command).unreturned why x.so);
    memory = λ x. tt;
  }
