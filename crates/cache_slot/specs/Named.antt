-- The name of the file that holds the entry of a key.
use Rattle.std.specs.Prelude.{ℕ, List, ◌++◌, codes}
use Rattle.sha1.specs.Sha1.{sha1}
use Rattle.hex.specs.Hex.{encode_lower}

abbrev pub file_name_of : List ℕ → List ℕ
file_name_of key = encode_lower (sha1 key) ++ codes ".tlto"
