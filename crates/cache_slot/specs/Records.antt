-- The history, a list of records.
use Rattle.std.specs.Prelude.{◌≡◌, ◌≢◌, ℕ, ◌+◌, Bool, if◌then◌else◌, List, [], ◌∷◌, ◌++◌, Option, None, Some}
use Rattle.std.specs.Str.{bytes_eq}
use Rattle.cache_slot.specs.declared.record.Record.{Record}
use Rattle.cache_slot.specs.declared.record.Record.TheVariants.{Entry, Again, Hit, Miss}
use Rattle.cache_slot.specs.declared.record.Why.TheVariants.{NoDirectory, Lacking, Fault}
use Rattle.cache_slot.specs.Files.{file_of}

-- the text of the first entry of the key
abbrev pub text_of : List ℕ → List Record → Option (List ℕ)
text_of key [] = None
text_of key (Entry k text failed ∷ rs) = if bytes_eq k key then Some text else text_of key rs
text_of key (Again k ∷ rs) = text_of key rs
text_of key (Hit k ∷ rs) = text_of key rs
text_of key (Miss k why ∷ rs) = text_of key rs

-- 1 where the record tells of a fault of the disk
abbrev pub faults_in : Record → ℕ
faults_in (Entry key text failed) = if failed then 1 else 0
faults_in (Again key) = 0
faults_in (Hit key) = 0
faults_in (Miss key NoDirectory) = 0
faults_in (Miss key Lacking) = 0
faults_in (Miss key Fault) = 1

-- of how many faults the history tells
abbrev pub faults_told : List Record → ℕ
faults_told [] = 0
faults_told (r ∷ rs) = faults_in r + faults_told rs

-- the record stands in the history, behind `before` and in front of `later`
abbrev pub Stands : Record → List Record → List Record → List Record → Type 0
Stands r before later rs = rs ≡ before ++ r ∷ later

-- no entry's file has the name
abbrev pub NoEntryOf : List ℕ → List Record → Type 0
NoEntryOf name rs = (key text : List ℕ) (failed : Bool) (before later : List Record) → Stands (Entry key text failed) before later rs → file_of key ≢ name

-- the record is no entry
abbrev pub IsNoEntry : Record → Type 0
IsNoEntry r = (key text : List ℕ) (failed : Bool) → r ≢ Entry key text failed
