-- What a disk in memory holds and answers.
use Rattle.std.specs.Prelude.{◌≡◌, ◌⊎◌, ℕ, Bool, true, false, List, take, Option, None, Some, Result, Ok, Err}
use Rattle.lto_outside.specs.DiskStore.{DiskStore, HasSaved, OtherEntriesStay}
use Rattle.lto_outside.specs.declared.fault.LoadFault.{LoadFault}
use Rattle.lto_outside.specs.declared.fault.LoadFault.TheVariants.{Fault, NoMemory}
use Rattle.outside_memory.specs.DiskFound.{disk_found}
use Rattle.outside_memory.specs.declared.calls.Calls.{Calls}
use Rattle.outside_memory.specs.declared.disk.MemoryDisk.{MemoryDisk}
use Rattle.outside_memory.specs.declared.failure.Failure.{Failure}
use Rattle.outside_memory.specs.declared.failure.Leaves.{Leaves}
use Rattle.outside_memory.specs.declared.failure.Leaves.TheVariants.{Before, Absent, Front}

abbrev pub disk_held : {M : Type 0} → MemoryDisk M → DiskStore
disk_held m dir name = disk_found m.entries.items dir name

abbrev pub disk_calls : {M : Type 0} → MemoryDisk M → Calls
disk_calls m = m.calls

abbrev pub disk_failures : {M : Type 0} → MemoryDisk M → List Failure
disk_failures m = m.failures.items

-- every file is as it was
abbrev pub SameEntries : DiskStore → DiskStore → Type 0
SameEntries old new = (dir name : List ℕ) → new dir name ≡ old dir name

-- the file holds this, or is absent, and the others are as they were
pub record IsNow (old new : DiskStore) (dir name : List ℕ) (bytes : Option (List ℕ)) : Type 0 where
  pub now : new dir name ≡ bytes
  pub others : OtherEntriesStay old new dir name

-- the answer is a fault, which the disk counts
abbrev pub is_load_fault : {A : Type 0} → Result A LoadFault → Bool
is_load_fault (Err Fault) = true
is_load_fault (Err NoMemory) = false
is_load_fault (Ok _) = false

-- A load faults exactly where it is to fail. Any other has all that the file holds, or none where there is no file,
-- unless memory runs out.
abbrev pub LoadAnswer : Option Leaves → Option (List ℕ) → Result (Option (List ℕ)) LoadFault → Type 0
LoadAnswer (Some leaves) held (Err Fault) = Unit {0}
LoadAnswer (Some leaves) held _ = ⊥
LoadAnswer None held (Ok found) = held ≡ found
LoadAnswer None None (Err NoMemory) = ⊥
LoadAnswer None (Some bytes) (Err NoMemory) = Unit {0}
LoadAnswer None held (Err Fault) = ⊥

-- what a save that is to fail leaves: what it is to leave, or what was there where memory runs out
abbrev pub SaveLeaves : Leaves → DiskStore → DiskStore → List ℕ → List ℕ → List ℕ → Type 0
SaveLeaves Before old new dir name bytes = SameEntries old new
SaveLeaves Absent old new dir name bytes = IsNow old new dir name None ⊎ SameEntries old new
SaveLeaves (Front count) old new dir name bytes = HasSaved old new dir name (take count bytes) ⊎ SameEntries old new

-- A save fails where it is to, and else only where memory runs out, and then changes nothing.
abbrev pub SaveAnswer : {E : Type 0} → Option Leaves → DiskStore → DiskStore → List ℕ → List ℕ → List ℕ → Result (Unit {0}) E → Type 0
SaveAnswer None old new dir name bytes (Ok _) = HasSaved old new dir name bytes
SaveAnswer None old new dir name bytes (Err _) = SameEntries old new
SaveAnswer (Some leaves) old new dir name bytes (Ok _) = ⊥
SaveAnswer (Some leaves) old new dir name bytes (Err _) = SaveLeaves leaves old new dir name bytes
