-- What a shelf keeps: what its history says of the disk.
use Rattle.std.specs.Prelude.{◌≡◌, ◌≢◌, ℕ, ◌+◌, ◌-◌, ◌<◌, ◌≤◌, ◌^◌, Bool, false, List, Option, None, Some, ⊤}
use Rattle.lto_outside.specs.DiskStore.{DiskStore}
use Rattle.lto_outside.specs.Honest.{IsHonest}
use Rattle.cache_slot.specs.declared.record.Record.{Record}
use Rattle.cache_slot.specs.declared.record.Record.TheVariants.{Entry, Hit, Miss}
use Rattle.cache_slot.specs.declared.record.Why.TheVariants.{NoDirectory, Lacking}
use Rattle.cache_slot.specs.Decoded.{decoded}
use Rattle.cache_slot.specs.Files.{file_of, bytes_of}
use Rattle.cache_slot.specs.Records.{text_of, faults_told, Stands, NoEntryOf}

-- What the history says of the files, of which `first` were there as it began, and `now` are there.
pub record FilesTold (dir : Option (List ℕ)) (first now : DiskStore) (rs : List Record) : Type 0 where
  -- an entry that was saved is in its file, unless a later entry has the same file
  pub saved :
      (d key text : List ℕ) (before later : List Record) → dir ≡ Some d → Stands (Entry key text false) before later rs → NoEntryOf (file_of key) later
      → now d (file_of key) ≡ Some (bytes_of key text)
  -- a hit of a key that no entry has is in its file, unless a later entry has the same file
  pub hits :
      (d key : List ℕ) (before later : List Record) → dir ≡ Some d → Stands (Hit key) before later rs → text_of key rs ≡ None → NoEntryOf (file_of key) later
      → (text : List ℕ) × (now d (file_of key) ≡ Some (bytes_of key text))
  -- a key that was lacking isn't in its file, unless it was stored later
  pub lacking :
      (d key : List ℕ) (before later : List Record) → dir ≡ Some d → Stands (Miss key Lacking) before later rs → text_of key later ≡ None
      → (text : List ℕ) → now d (file_of key) ≢ Some (bytes_of key text)
  -- every file but those of entries is as it was
  pub others : (d name : List ℕ) → (dir ≡ Some d → NoEntryOf name rs) → now d name ≡ first d name

-- the same, of a disk that tells what it holds or doesn't; one that told is still told
abbrev pub DiskTold : Option (List ℕ) → Option DiskStore → Option DiskStore → List Record → Type 0
DiskTold dir None held rs = ⊤
DiskTold dir (Some first) None rs = ⊥
DiskTold dir (Some first) (Some now) rs = FilesTold dir first now rs

-- What a shelf with the history `rs` keeps. The disk had failed `faults` times and held `files` as it was made, and has
-- failed `faults_now` times and holds `held` now.
pub record IsShelved (fits : List ℕ → List ℕ → Type 0) (IsKey : List ℕ → Type 0) (dir : Option (List ℕ)) (faults : ℕ) (files : Option DiskStore)
    (faults_now : ℕ) (held : Option DiskStore) (rs : List Record) : Type 0 where
  -- a look-up found no directory only where there is none
  pub without : (key : List ℕ) (before later : List Record) → Stands (Miss key NoDirectory) before later rs → dir ≡ None
  -- the history tells of no more faults than there were, unless their count stands at its last value
  pub bound : faults_now < 2 ^ 64 - 1 → faults_told rs + faults ≤ faults_now
  -- each entry has a key that may be stored, which no entry before it has, and a text that is made of it
  pub named : (key text : List ℕ) (failed : Bool) (before later : List Record) → Stands (Entry key text failed) before later rs → IsKey key
  pub once : (key text : List ℕ) (failed : Bool) (before later : List Record) → Stands (Entry key text failed) before later rs → text_of key before ≡ None
  pub made : (key text : List ℕ) (failed : Bool) (before later : List Record) → Stands (Entry key text failed) before later rs → fits key text
  -- an honest disk is still honest
  pub honest : IsHonest decoded fits files → IsHonest decoded fits held
  pub told : DiskTold dir files held rs
