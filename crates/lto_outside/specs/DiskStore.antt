-- What the cache's directories hold, and what the calls of `CacheDisk` do to them.
use Rattle.std.specs.Prelude.{◌≡◌, ◌⊎◌, ℕ, List, Option, None, Some, Result, Ok, Err, take, ⊤}
use Rattle.lto_outside.specs.declared.fault.LoadFault.{LoadFault}

-- what each name of each directory holds, or none where there is no such file
abbrev pub DiskStore : Type 0
DiskStore = List ℕ → List ℕ → Option (List ℕ)

-- every file but this one is as it was
abbrev pub OtherEntriesStay : DiskStore → DiskStore → List ℕ → List ℕ → Type 0
OtherEntriesStay old new dir name = (d n : List ℕ) → (d ≡ dir → n ≡ name → ⊥) → new d n ≡ old d n

-- a told disk is still told, and every file is as it was
abbrev pub DiskStays : Option DiskStore → Option DiskStore → Type 0
DiskStays None new = ⊤
DiskStays (Some old) None = ⊥
DiskStays (Some old) (Some new) = (dir name : List ℕ) → new dir name ≡ old dir name

-- an answer is all that the file holds, and none exactly where there is no such file
abbrev pub Loads : Option DiskStore → List ℕ → List ℕ → Result (Option (List ℕ)) LoadFault → Type 0
Loads None dir name result = ⊤
Loads (Some held) dir name (Ok found) = held dir name ≡ found
Loads (Some held) dir name (Err _) = ⊤

-- the file holds just the bytes, and the others are as they were
pub record HasSaved (old new : DiskStore) (dir name bytes : List ℕ) : Type 0 where
  pub written : new dir name ≡ Some bytes
  pub others : OtherEntriesStay old new dir name

abbrev pub Saves : Option DiskStore → Option DiskStore → List ℕ → List ℕ → List ℕ → Type 0
Saves None new dir name bytes = ⊤
Saves (Some old) None dir name bytes = ⊥
Saves (Some old) (Some new) dir name bytes = HasSaved old new dir name bytes

-- after a save that failed the file is as it was, is absent, or holds a front of the bytes
pub record HasSavedPart (old new : DiskStore) (dir name bytes : List ℕ) : Type 0 where
  pub part : (new dir name ≡ old dir name) ⊎ (new dir name ≡ None) ⊎ ((count : ℕ) × (new dir name ≡ Some (take count bytes)))
  pub others : OtherEntriesStay old new dir name

abbrev pub SavesPart : Option DiskStore → Option DiskStore → List ℕ → List ℕ → List ℕ → Type 0
SavesPart None new dir name bytes = ⊤
SavesPart (Some old) None dir name bytes = ⊥
SavesPart (Some old) (Some new) dir name bytes = HasSavedPart old new dir name bytes
