-- What a look-up finds and what a store does, where `before` is the history at its turn.
use Rattle.std.specs.Prelude.{◌≡◌, ◌≢◌, ◌⊎◌, ℕ, Bool, true, false, if◌then◌else◌, List, [], ◌∷◌, ◌++◌, Option, None, Some, Result, Ok, Err}
use Rattle.std.specs.Result.{result_ok}
use Rattle.lto_outside.specs.Cause.{Rose}
use Rattle.lto_outside.specs.DiskStore.{DiskStore, Saves, SavesPart}
use Rattle.cache_slot.specs.declared.record.Record.{Record}
use Rattle.cache_slot.specs.declared.record.Record.TheVariants.{Entry, Again, Hit, Miss}
use Rattle.cache_slot.specs.declared.record.Why.{Why}
use Rattle.cache_slot.specs.declared.record.Why.TheVariants.{NoDirectory, Lacking, Fault}
use Rattle.cache_slot.specs.declared.kept.SkipCause.TheVariants.{Disk}
use Rattle.cache_slot.specs.declared.kept.Kept.{Kept}
use Rattle.cache_slot.specs.declared.kept.Kept.TheVariants.{New, Already, Skipped}
use Rattle.cache_slot.specs.Files.{file_of, bytes_of, Holds, Lacks}
use Rattle.cache_slot.specs.Records.{text_of}

-- what a look-up finds: a text, or why there is none
abbrev pub Finding : Type 0
Finding = Result (List ℕ) Why

-- A text is that of an entry of the key, or, where no entry has it, that of the key's file, which was read in this call.
-- There is none only where no entry has the key, and for its cause.
abbrev pub FoundOn : Option DiskStore → ℕ → ℕ → Option (List ℕ) → List Record → List ℕ → Finding → Type 0
FoundOn held faults faults_now dir before key (Ok text) = (text_of key before ≡ Some text) ⊎ ((text_of key before ≡ None) × (dir ≢ None) × Holds held dir key text)
FoundOn held faults faults_now dir before key (Err NoDirectory) = (text_of key before ≡ None) × (dir ≡ None)
FoundOn held faults faults_now dir before key (Err Lacking) = (text_of key before ≡ None) × (dir ≢ None) × Lacks held dir key
FoundOn held faults faults_now dir before key (Err Fault) = (text_of key before ≡ None) × (dir ≢ None) × Rose faults faults_now

-- a look-up or store of the key needn't call the disk: an entry has the key, or there is no directory
abbrev pub NeedsNoDisk : Option (List ℕ) → List Record → List ℕ → Type 0
NeedsNoDisk dir before key = (text_of key before ≢ None) ⊎ (dir ≡ None)

-- what reading the key's file finds
abbrev pub LoadedAs : Option DiskStore → ℕ → ℕ → List ℕ → List ℕ → Finding → Type 0
LoadedAs held faults faults_now dir key (Ok text) = Holds held (Some dir) key text
LoadedAs held faults faults_now dir key (Err NoDirectory) = ⊥
LoadedAs held faults faults_now dir key (Err Lacking) = Lacks held (Some dir) key
LoadedAs held faults faults_now dir key (Err Fault) = Rose faults faults_now

-- the same as `FoundOn`, of a caller who doesn't see the disk
abbrev pub Finds : Option (List ℕ) → List Record → List ℕ → Finding → Type 0
Finds dir before key (Ok text) = (text_of key before ≡ Some text) ⊎ ((text_of key before ≡ None) × (dir ≢ None))
Finds dir before key (Err NoDirectory) = (text_of key before ≡ None) × (dir ≡ None)
Finds dir before key (Err Lacking) = (text_of key before ≡ None) × (dir ≢ None)
Finds dir before key (Err Fault) = (text_of key before ≡ None) × (dir ≢ None)

-- the record of a look-up
abbrev pub record_of : List ℕ → Finding → Record
record_of key (Ok text) = Hit key
record_of key (Err why) = Miss key why

-- What a look-up answers where the history goes from `before` to `after`.
abbrev pub LookedOn : Option DiskStore → ℕ → ℕ → Option (List ℕ) → List ℕ → List Record → List Record → Option (List ℕ) → Type 0
LookedOn held faults faults_now dir key before after answer =
    (found : Finding) × FoundOn held faults faults_now dir before key found × (after ≡ before ++ record_of key found ∷ []) × (answer ≡ result_ok found)

abbrev pub Looked : Option (List ℕ) → List ℕ → List Record → List Record → Option (List ℕ) → Type 0
Looked dir key before after answer = (found : Finding) × Finds dir before key found × (after ≡ before ++ record_of key found ∷ []) × (answer ≡ result_ok found)

-- the pair was saved in the directory, or the save failed; without a directory nothing was done
abbrev pub SavedOn : Option DiskStore → Option DiskStore → ℕ → ℕ → Option (List ℕ) → List ℕ → List ℕ → (failed : Bool) → Type 0
SavedOn held held_now faults faults_now None key text false = (held_now ≡ held) × (faults_now ≡ faults)
SavedOn held held_now faults faults_now None key text true = ⊥
SavedOn held held_now faults faults_now (Some dir) key text false = Saves held held_now dir (file_of key) (bytes_of key text)
SavedOn held held_now faults faults_now (Some dir) key text true = SavesPart held held_now dir (file_of key) (bytes_of key text) × Rose faults faults_now

-- What a store of the pair answers where the history goes from `before` to `after`.
abbrev pub Stored : Option (List ℕ) → List ℕ → List ℕ → List Record → List Record → Kept → Type 0
Stored dir key text before after New = (text_of key before ≡ None) × (after ≡ before ++ Entry key text false ∷ [])
Stored dir key text before after Already = (text_of key before ≢ None) × (after ≡ before ++ Again key ∷ [])
Stored dir key text before after (Skipped Disk) = (text_of key before ≡ None) × (dir ≢ None) × (after ≡ before ++ Entry key text true ∷ [])

-- the answer of a store that found no entry of the key
abbrev pub kept_of : (failed : Bool) → Kept
kept_of failed = if failed then Skipped Disk else New

-- what it did to the disk
abbrev pub StoredOn : Option DiskStore → Option DiskStore → ℕ → ℕ → Option (List ℕ) → List ℕ → List ℕ → Kept → Type 0
StoredOn held held_now faults faults_now dir key text New = SavedOn held held_now faults faults_now dir key text false
StoredOn held held_now faults faults_now dir key text Already = (held_now ≡ held) × (faults_now ≡ faults)
StoredOn held held_now faults faults_now dir key text (Skipped Disk) = SavedOn held held_now faults faults_now dir key text true
