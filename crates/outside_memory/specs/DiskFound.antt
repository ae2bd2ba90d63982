-- What a disk's entries hold, the newest first.
use Rattle.std.specs.Prelude.{ℕ, Bool, List, [], ◌∷◌, Option, None, if◌then◌else◌, ◌&&◌}
use Rattle.std.specs.Str.{bytes_eq}
use Rattle.outside_memory.specs.declared.disk.DiskEntry.{DiskEntry}

-- the entry is of this name in this directory
abbrev pub is_at : List ℕ → List ℕ → DiskEntry → Bool
is_at dir name entry = bytes_eq entry.dir dir && bytes_eq entry.name name

-- what the first entry of the name in the directory holds
abbrev pub disk_found : List DiskEntry → List ℕ → List ℕ → Option (List ℕ)
disk_found [] dir name = None
disk_found (entry ∷ entries) dir name = if is_at dir name entry then entry.bytes else disk_found entries dir name
