-- The table of a history's entries, by their keys.
use Rattle.std.specs.Prelude.{ℕ, List, Option}
use Rattle.std.specs.HashMap.{HashMap, get}
use Rattle.std.specs.Str.{bytes_eq}

-- the text that it has at the key
abbrev pub text_at : {S : Type 0} → List ℕ → HashMap (List ℕ) (List ℕ) S → Option (List ℕ)
text_at key table = get bytes_eq table key
