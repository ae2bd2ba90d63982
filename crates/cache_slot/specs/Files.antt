-- The file of a key in the cache's directory.
use Rattle.std.specs.Prelude.{◌≡◌, ◌≢◌, ℕ, List, Option, None, Some, ⊤}
use Rattle.cache_slot.specs.Entry.{entry}
use Rattle.cache_slot.specs.Named.{file_name_of}
use Rattle.lto_outside.specs.DiskStore.{DiskStore}

-- the name of the file that holds the entry of the key
unfoldable pub file_of : List ℕ → List ℕ
file_of key = file_name_of key

-- the bytes of the entry of the key and the text
unfoldable pub bytes_of : List ℕ → List ℕ → List ℕ
bytes_of key text = entry key text

-- where the disk tells, the file of the key is its entry with this text
abbrev pub Holds : Option DiskStore → Option (List ℕ) → List ℕ → List ℕ → Type 0
Holds None dir key text = ⊤
Holds (Some files) None key text = ⊥
Holds (Some files) (Some dir) key text = files dir (file_of key) ≡ Some (bytes_of key text)

-- where the disk tells, the file of the key is absent, or is no entry of the key
abbrev pub Lacks : Option DiskStore → Option (List ℕ) → List ℕ → Type 0
Lacks None dir key = ⊤
Lacks (Some files) None key = ⊥
Lacks (Some files) (Some dir) key = (text : List ℕ) → files dir (file_of key) ≢ Some (bytes_of key text)
