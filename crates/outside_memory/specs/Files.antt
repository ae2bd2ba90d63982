-- What files in memory hold and answer.
use Rattle.std.specs.Prelude.{◌≡◌, ◌<◌, ◌≤◌, ◌^◌, ◌⊎◌, ℕ, Bool, true, false, List, length, take, Option, None, Some, Result, Ok, Err}
use Rattle.lto_outside.specs.Store.{Store, HasPut, SameFiles}
use Rattle.lto_outside.specs.declared.fault.FetchFault.{FetchFault}
use Rattle.lto_outside.specs.declared.fault.FetchFault.TheVariants.{Fault, TooLong, NoMemory}
use Rattle.outside_memory.specs.Found.{found}
use Rattle.outside_memory.specs.declared.calls.Calls.{Calls}
use Rattle.outside_memory.specs.declared.failure.Failure.{Failure}
use Rattle.outside_memory.specs.declared.failure.Leaves.{Leaves}
use Rattle.outside_memory.specs.declared.failure.Leaves.TheVariants.{Before, Absent, Front}
use Rattle.outside_memory.specs.declared.files.MemoryFiles.{MemoryFiles}

abbrev pub files_held : MemoryFiles → Store
files_held m name = found m.entries.items name

abbrev pub files_calls : MemoryFiles → Calls
files_calls m = m.calls

abbrev pub files_failures : MemoryFiles → List Failure
files_failures m = m.failures.items

-- the answer is a fault, which the files count
abbrev pub is_fetch_fault : {A : Type 0} → Result A FetchFault → Bool
is_fetch_fault (Err Fault) = true
is_fetch_fault (Err TooLong) = false
is_fetch_fault (Err NoMemory) = false
is_fetch_fault (Ok _) = false

-- A fetch faults exactly where it is to fail or no file has the name. Any other has all bytes, or says that there are
-- more than 16 MiB, unless memory runs out.
abbrev pub FetchAnswer : Option Leaves → Option (List ℕ) → Result (List ℕ) FetchFault → Type 0
FetchAnswer (Some leaves) held (Err Fault) = Unit {0}
FetchAnswer (Some leaves) held _ = ⊥
FetchAnswer None None (Err Fault) = Unit {0}
FetchAnswer None None _ = ⊥
FetchAnswer None (Some bytes) (Ok text) = (text ≡ bytes) × (length bytes ≤ 2 ^ 24)
FetchAnswer None (Some bytes) (Err TooLong) = 2 ^ 24 < length bytes
FetchAnswer None (Some bytes) (Err NoMemory) = length bytes ≤ 2 ^ 24
FetchAnswer None (Some bytes) (Err Fault) = ⊥

-- what a put that is to fail leaves: what it is to leave, or what was there where memory runs out
abbrev pub PutLeaves : Leaves → Store → Store → List ℕ → List ℕ → Type 0
PutLeaves Before old new name bytes = SameFiles old new
PutLeaves Absent old new name bytes = SameFiles old new
PutLeaves (Front count) old new name bytes = HasPut old new name (take count bytes) ⊎ SameFiles old new

-- A put fails where it is to, and else only where memory runs out, and then changes nothing.
abbrev pub PutAnswer : {E : Type 0} → Option Leaves → Store → Store → List ℕ → List ℕ → Result (Unit {0}) E → Type 0
PutAnswer None old new name bytes (Ok _) = HasPut old new name bytes
PutAnswer None old new name bytes (Err _) = SameFiles old new
PutAnswer (Some leaves) old new name bytes (Ok _) = ⊥
PutAnswer (Some leaves) old new name bytes (Err _) = PutLeaves leaves old new name bytes
