-- The files of a command are fetched and read, and their modules are linked by their summaries.
use Rattle.std.specs.Prelude.{◌≡◌, ◌⊎◌, ◌≤◌, ◌^◌, ℕ, List, [], ◌∷◌, length, Option, Some, None}
use Rattle.std.specs.List.{AllZip}
use Rattle.ir_tree.specs.declared.module.Module.{Module}
use Rattle.lto_fault.specs.declared.kind.RefusalKind.{RefusalKind}
use Rattle.ir_tree.specs.declared.fault_kind.FaultKind.TheVariants.{Limit}
use Rattle.lto_fault.specs.declared.kind.RefusalKind.TheVariants.{Unread}
use Rattle.lto_fault.specs.declared.refusal.Refusal.{Refusal}
use Rattle.lto_fault.specs.declared.refusal.Refusal.TheVariants.{NoMemory, ReadFault}
use Rattle.ir_tree.specs.declared.failure.Failure.{Failure}
use Rattle.ir_tree.specs.declared.failure.Failure.TheVariants as error
use Rattle.lto_outside.specs.Calls.{Call, DidNoPut}
use Rattle.lto_outside.specs.Cause.{Rose}
use Rattle.lto_outside.specs.Seen.{FilesSeen}
use Rattle.lto_words.specs.Fetching.{FetchFailed, fetch_calls}
use Rattle.link_one.specs.Accepted.{Accepts, Refuses}
use Rattle.thin_link.specs.Refusing.{IsRefused}
use Rattle.run_program.specs.Causes.{Causes, never}

-- ---- one file, of which its bytes were given, or that they are too many

-- 16 MiB at most, which are read as a sound module
abbrev pub IsRead : Option (List ℕ) → Module → Type 0
IsRead None m = ⊥
IsRead (Some bytes) m = (length bytes ≤ 2 ^ 24) × Accepts bytes m

-- too many, which is told of line 0; or they are read as no sound module within the limits, and this is their first fault
abbrev pub IsBad : Option (List ℕ) → ℕ → RefusalKind → Type 0
IsBad None line kind = (line ≡ 0) × (kind ≡ Unread Limit)
IsBad (Some bytes) line kind = (length bytes ≤ 2 ^ 24) × Refuses bytes line kind

-- the bytes, where they are given
abbrev pub bytes_of : Option (List ℕ) → List ℕ
bytes_of None = []
bytes_of (Some bytes) = bytes

-- ---- all files

-- of these files the first that isn't read, and why
abbrev pub FirstBad : List (List ℕ) → List (Option (List ℕ)) → List ℕ → ℕ → RefusalKind → Type 0
FirstBad [] given file line kind = ⊥
FirstBad (name ∷ names) [] file line kind = ⊥
FirstBad (name ∷ names) (bytes ∷ given) file line kind =
    ((file ≡ name) × IsBad bytes line kind) ⊎ (((m : Module) × IsRead bytes m) × FirstBad names given file line kind)

-- each was fetched, in this order, and there were no other calls
pub record AreFetched (names : List (List ℕ)) (given : List (Option (List ℕ))) (did : List Call → Type 0) : Type 0 where
  pub each : length given ≡ length names
  pub calls : did (fetch_calls names given)

-- and each is read as a sound module
pub record AreRead (names : List (List ℕ)) (did : List Call → Type 0) (ms : List Module) : Type 0 where
  pub given : List (Option (List ℕ))
  pub fetched : AreFetched names given did
  pub read : AllZip IsRead given ms

-- ---- why a command isn't done

-- one of them can't be fetched
pub record CannotFetch (names : List (List ℕ)) (files : FilesSeen) (name : List ℕ) : Type 0 where
  pub failed : FetchFailed files.did names name
  pub rose : Rose files.faults files.faults_now

-- all were fetched, and one isn't read
pub record CannotRead (names : List (List ℕ)) (files : FilesSeen) (file : List ℕ) (line : ℕ) (kind : RefusalKind) : Type 0 where
  pub given : List (Option (List ℕ))
  pub fetched : AreFetched names given files.did
  pub first : FirstBad names given file line kind

-- all are read, and have no thin link
pub record CannotLink (exports names : List (List ℕ)) (files : FilesSeen) (why : Refusal) : Type 0 where
  pub ms : List Module
  pub read : AreRead names files.did ms
  pub refused : IsRefused names ms exports why

-- how it is told that a file can't be fetched
abbrev pub unfetched : Failure (List ℕ) → Refusal
unfetched (error.Fault name) = ReadFault name
unfetched error.NoMemory = NoMemory

-- why modules aren't read
abbrev pub reading : List (List ℕ) → FilesSeen → Causes
reading names files = record never {
  unread = CannotFetch names files;
  refused = CannotRead names files;
  memory = DidNoPut files.did;
}

-- and why they aren't linked
abbrev pub deciding : List (List ℕ) → List (List ℕ) → FilesSeen → Causes
deciding exports names files = record (reading names files) { unlinked = CannotLink exports names files }
