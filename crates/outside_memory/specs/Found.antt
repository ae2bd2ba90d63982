-- What entries hold, the newest first.
use Rattle.std.specs.Prelude.{ℕ, List, [], ◌∷◌, Option, Some, None, if◌then◌else◌}
use Rattle.std.specs.Str.{bytes_eq}
use Rattle.outside_memory.specs.declared.files.Entry.{Entry}

-- what the first entry of the name holds
abbrev pub found : List Entry → List ℕ → Option (List ℕ)
found [] name = None
found (entry ∷ entries) name = if bytes_eq entry.name name then Some entry.bytes else found entries name
