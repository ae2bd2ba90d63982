-- A link of files.
use mathlib.Core.Logic.{∥∥₁_map}
use Rattle.std.proofs.Common.{◌≡◌, ℕ, Bool, true, false, List, [], ◌∷◌, ◌++◌, map, Option, Some, None, OnOk, Result, Ok, Err, refl, sym, subst}
use Rattle.std.specs.Prelude.{All, IfErr, IfOk}
use Rattle.std.specs.List.{AllZip}
use Rattle.std.proofs.lemmas.List.Elements.{All-cons, All-head, All-nil, All-tail}
use Rattle.ir_tree.specs.Names.{AllBytes}
use Rattle.ir_tree.specs.declared.module.Module.{Module}
use Rattle.link_one.specs.Accepted.{Accepts}
use Rattle.link_one.specs.Laws.{AcceptedIsOne}
use Rattle.link_one.specs.Linking.{IsLinkOf, IsOnlyLinkOf}
use Rattle.link_one.specs.LinkedLaws.{UnlinkedIsNotLinked}
use Rattle.link_one.specs.ModuleUnits.{IsTaskInLink}
use Rattle.link_one.specs.Refusing.{CanBeLinked, IsUnlinked}
use Rattle.link_one.proofs.Texts.{one_accepted}
use Rattle.lto_words.specs.Fetching.{fetch_calls}
use Rattle.lto_outside.specs.Calls.{Call, Put}
use Rattle.lto_outside.specs.Seen.{FilesSeen}
use Rattle.lto_task.specs.Tasks.{TaskView}
use Rattle.lto_words.specs.declared.request.LinkOptions.{LinkOptions}
use Rattle.combined_index.specs.Combined.{Combined}
use Rattle.thin_link.specs.Linking.{IsThinLink}
use Rattle.lto_fault.specs.declared.refusal.Refusal.{Refusal}
use Rattle.lto_fault.specs.declared.refusal.Refusal.TheVariants.{WriteFault}
use Rattle.lto_outside.specs.Cause.{Rose}
use Rattle.run_program.specs.Causes.{Because, Comes, never}
use Rattle.thinlto_main.specs.Linking.{DidLink, HasThinLink, IsLinkable, IsMade, IsMadeIf, IsUnlinkable, linking, suffixes_of}
use Rattle.thinlto_main.specs.Keys.{IsKeyOf, IsKeyOfFiles}
use Rattle.thinlto_main.specs.Modules.{AreFetched, FirstBad, IsRead, bytes_of, reading}
use Rattle.thinlto_main.specs.Tasks.{IsTaskOfFiles}
use Rattle.run_program.proofs.Causes.{Implies}
use Rattle.thinlto_main.proofs.Reading.{fetched_no_put}
use Rattle.thinlto_main.proofs.Rereading.{ReadingLaws, linked_reads}

-- why modules aren't read is why there is no link
pub reading_links : (options : LinkOptions) (out : List ℕ) (names : List (List ℕ)) (trusted : Type 0) (files : FilesSeen) → Implies (reading names files) (linking options out names trusted files)
reading_links options out names trusted files = record {
  done = λ x. absurd x;
  usage = λ x. x;
  unread = λ name x. x;
  refused = λ file line kind x. x;
  unlinked = λ why x. absurd x;
  unfit = λ name x. absurd x;
  unwritten = λ name x. absurd x;
  unreturned = λ why x. absurd x;
  memory = λ x. x;
}

-- and so is why nothing is made of what files gave
pub unmade_links : (options : LinkOptions) (out : List ℕ) (names : List (List ℕ)) (trusted : Type 0) (files : FilesSeen) (given : List (Option (List ℕ))) → AreFetched names given files.did
    → Implies (record never { refused = FirstBad names given; unlinked = IsUnlinkable options names given; memory = Unit {0} }) (linking options out names trusted files)
unmade_links options out names trusted files given fetched = record {
  done = λ x. absurd x;
  usage = λ x. x;
  unread = λ name x. absurd x;
  refused = λ file line kind x. record { given = given; fetched = fetched; first = x };
  unlinked = λ why x. record { given = given; fetched = fetched; unlinkable = x };
  unfit = λ name x. absurd x;
  unwritten = λ name x. absurd x;
  unreturned = λ why x. absurd x;
  memory = λ x. fetched_no_put names given files.did fetched;
}

-- ---- what is made of what files gave

-- a file that isn't read
pub bad_unmade : (options : LinkOptions) (names : List (List ℕ)) (given : List (Option (List ℕ)))
    → Implies (record never { refused = FirstBad names given; memory = Unit {0} }) (record never { refused = FirstBad names given; unlinked = IsUnlinkable options names given; memory = Unit {0} })
bad_unmade options names given = record {
  done = λ x. x;
  usage = λ x. x;
  unread = λ name x. x;
  refused = λ file line kind x. x;
  unlinked = λ why x. absurd x;
  unfit = λ name x. x;
  unwritten = λ name x. x;
  unreturned = λ why x. x;
  memory = λ x. x;
}

-- modules that aren't linked
pub unlinked_unmade : (options : LinkOptions) (names : List (List ℕ)) (given : List (Option (List ℕ))) (ms : List Module) → AllZip IsRead given ms
    → Implies (record never { unlinked = IsUnlinked names options.exports options.import_limit (suffixes_of given) ms; memory = Unit {0} }) (record never { refused = FirstBad names given; unlinked = IsUnlinkable options names given; memory = Unit {0} })
unlinked_unmade options names given ms read = record {
  done = λ x. x;
  usage = λ x. x;
  unread = λ name x. x;
  refused = λ file line kind x. absurd x;
  unlinked = λ why x. record { ms = ms; read = read; unlinked = x };
  unfit = λ name x. x;
  unwritten = λ name x. x;
  unreturned = λ why x. x;
  memory = λ x. x;
}

-- what the thin link decides
pub has_thin_link : (ms : List Module) (limit : ℕ) (exports : List (List ℕ)) (index : Combined) (live : List Bool) (imports : List (List ℕ)) → IsThinLink ms exports limit index live imports
    → HasThinLink ms exports limit
has_thin_link ms limit exports index live imports h = record { index = index; live = live; imports = imports; is = h }

-- what is read is accepted
pub accepted_bytes : (given : List (Option (List ℕ))) (ms : List Module) → AllZip IsRead given ms → AllZip Accepts (map bytes_of given) ms
accepted_bytes [] [] read = tt
accepted_bytes [] (m ∷ ms) read = absurd read
accepted_bytes (g ∷ given) [] read = absurd read
accepted_bytes (None ∷ given) (m ∷ ms) read = absurd read.0
accepted_bytes (Some bytes ∷ given) (m ∷ ms) read = (read.0.1, accepted_bytes given ms read.1)

-- what was given is bytes where each of it is
pub all_given : (given : List (Option (List ℕ))) → All (λ g. AllBytes (bytes_of g)) given → All AllBytes (map bytes_of given)
all_given [] all = All-nil AllBytes
all_given (g ∷ given) all = All-cons AllBytes (bytes_of g) (map bytes_of given) (All-head (λ h. AllBytes (bytes_of h)) g given all) (all_given given (All-tail (λ h. AllBytes (bytes_of h)) g given all))

-- a link of it is made of it
pub is_made : ReadingLaws → AcceptedIsOne → (options : LinkOptions) (given : List (Option (List ℕ))) (ms : List Module) (text : List ℕ) → AllZip IsRead given ms
    → IsLinkOf options.exports options.import_limit options.inline_limit (map bytes_of given) text
    → IsOnlyLinkOf options.exports options.import_limit options.inline_limit (map bytes_of given) text → IsMade options given text
is_made laws accepted options given ms text read link only = record {
  is_link = link;
  read = subst (λ (l : List Module). AllZip IsRead given l) (one_accepted accepted (map bytes_of given) ms link.ms (accepted_bytes given ms read) link.accepted) read;
  only = only;
  reads = λ of_bytes. linked_reads laws options.exports options.import_limit options.inline_limit (map bytes_of given) text link of_bytes;
}

pub if_made : {E : Type 0} → ReadingLaws → AcceptedIsOne → (options : LinkOptions) (given : List (Option (List ℕ))) (ms : List Module) → AllZip IsRead given ms → (trusted : Type 0) (r : Result (List ℕ) E)
    → IfOk r (λ text. trusted → ∥ IsLinkOf options.exports options.import_limit options.inline_limit (map bytes_of given) text ∥₁)
    → IfOk r (λ text. trusted → IsOnlyLinkOf options.exports options.import_limit options.inline_limit (map bytes_of given) text) → IfOk r (IsMadeIf trusted options given)
if_made laws accepted options given ms read trusted (Ok text) link only = λ sure. ∥∥₁_map (link sure) (λ l. is_made laws accepted options given ms text read l (only sure))
if_made laws accepted options given ms read trusted (Err e) link only = tt

-- modules that have a thin link and names in it are linkable
pub is_linkable : UnlinkedIsNotLinked → (options : LinkOptions) (names : List (List ℕ)) (given : List (Option (List ℕ))) (ms : List Module) → AllZip IsRead given ms
    → CanBeLinked options.exports options.import_limit (suffixes_of given) ms → IsLinkable options names given
is_linkable law options names given ms read can = record { ms = ms; read = read; linked = λ why u. law names options.exports options.import_limit (suffixes_of given) ms why can u }

-- exports and suffixes may be told in two ways
pub same_task : (exports others : List (List ℕ)) (import_limit inline_limit : ℕ) (suffixes more : List (List ℕ)) (ms : List Module) (t : TaskView) → exports ≡ others → suffixes ≡ more
    → IsTaskInLink exports import_limit inline_limit suffixes ms t → IsTaskInLink others import_limit inline_limit more ms t
same_task exports others import_limit inline_limit suffixes more ms t es ss task =
    subst (λ (l : List (List ℕ)). IsTaskInLink l import_limit inline_limit more ms t) es (subst (λ (l : List (List ℕ)). IsTaskInLink exports import_limit inline_limit l ms t) ss task)

-- a task of the link of what was given is one of these files
pub task_of_given : (options : LinkOptions) (given : List (Option (List ℕ))) (ms : List Module) → AllZip IsRead given ms → (t : TaskView)
    → IsTaskInLink options.exports options.import_limit options.inline_limit (suffixes_of given) ms t → IsTaskOfFiles (map bytes_of given) t
task_of_given options given ms read t in_link = record {
  exports = options.exports;
  import_limit = options.import_limit;
  inline_limit = options.inline_limit;
  ms = ms;
  accepted = accepted_bytes given ms read;
  in_link = in_link;
}

-- what is put behind the fetches
module _ {F : Type 0} (did : F → List Call → F → Type 0)
    (more : (a b c : F) (first rest : List Call) → did a first b → did b rest c → did a (first ++ rest) c) (a b c : F) where
  pub did_link : (options : LinkOptions) (out : List ℕ) (names : List (List ℕ)) (given : List (Option (List ℕ))) (put text : List ℕ) (done : Bool) (trusted : Type 0)
      → AreFetched names given (λ calls. did a calls b) → IsLinkable options names given → IsMadeIf trusted options given text → did b (Put out put done ∷ []) c → put ≡ text
      → (files : FilesSeen) → ((calls : List Call) → did a calls c → files.did calls) → DidLink options out names trusted files done
  did_link options out names given put text done trusted fetched linkable made stored put_is files shows = record {
    given = given;
    each = fetched.each;
    linkable = linkable;
    text = text;
    made = made;
    calls = shows (fetch_calls names given ++ Put out text done ∷ []) (more a b c (fetch_calls names given) (Put out text done ∷ []) fetched.calls (subst (λ t. did b (Put out t done ∷ []) c) put_is stored));
  }

  -- what comes of a put
  pub link_comes : {A : Type 0} (options : LinkOptions) (out : List ℕ) (names : List (List ℕ)) (given : List (Option (List ℕ))) (put text : List ℕ) (trusted : Type 0) (faults : ℕ)
      → AreFetched names given (λ calls. did a calls b) → IsLinkable options names given → IsMadeIf trusted options given text → put ≡ text
      → (files : FilesSeen) → ((calls : List Call) → did a calls c → files.did calls) → (Rose faults files.faults_now → Rose files.faults files.faults_now)
      → (r : Result A Refusal) → OnOk r (did b (Put out put true ∷ []) c) → IfErr r (λ why. (why ≡ WriteFault out) × did b (Put out put false ∷ []) c × Rose faults files.faults_now) → Comes (linking options out names trusted files) r
  link_comes options out names given put text trusted faults fetched linkable made put_is files shows later (Ok x) done failed =
      did_link options out names given put text true trusted fetched linkable made done put_is files shows
  link_comes options out names given put text trusted faults fetched linkable made put_is files shows later (Err why) done failed =
      subst (Because (linking options out names trusted files)) (sym failed.0)
      (record { named = refl; did_link = did_link options out names given put text false trusted fetched linkable made failed.1 put_is files shows; rose = later failed.2 })

  -- the calls of a put
  pub put_calls : {A : Type 0} (out put : List ℕ) (rose : Type 0) (r : Result A Refusal) → OnOk r (did b (Put out put true ∷ []) c) → IfErr r (λ why. (why ≡ WriteFault out) × did b (Put out put false ∷ []) c × rose) → (later : List Call) × did b later c
  put_calls out put rose (Ok x) done failed = (Put out put true ∷ [], done)
  put_calls out put rose (Err why) done failed = (Put out put false ∷ [], failed.1)

  -- a key of what was given is one of the files that were fetched
  pub key_of_files : (options : LinkOptions) (names : List (List ℕ)) (given : List (Option (List ℕ))) → AreFetched names given (λ calls. did a calls b) → (rest : (later : List Call) × did b later c) → (key : List ℕ) → IsKeyOf options given key
      → IsKeyOfFiles options names (λ calls. did a calls c) key
  key_of_files options names given fetched rest key is = record { given = given; each = fetched.each; later = rest.0; calls = more a b c (fetch_calls names given) rest.0 fetched.calls rest.1; is = is }
