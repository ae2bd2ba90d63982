-- The cache's directory.
use Rattle.std.specs.Prelude.{ℕ, List, Option, String, string_bytes}
use Rattle.std.specs.Option.{option_map}

-- its name, where there is one
abbrev pub dir_of : {Y : Type 0} → Option (String Y) → Option (List ℕ)
dir_of dir = option_map (λ name. string_bytes name) dir
