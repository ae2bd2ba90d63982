-- The suffix of a module's locals.
use Rattle.std.specs.Prelude.{ℕ, List, ◌++◌, take, codes, decimal}
use Rattle.std.specs.Int.{w64, from_be_bytes}
use Rattle.sha1.specs.Sha1.{sha1}

-- the number that the first eight bytes write, the highest first
abbrev pub leading_number : List ℕ → ℕ
leading_number digest = from_be_bytes w64 (take 8 digest)

abbrev pub suffix_of : List ℕ → List ℕ
suffix_of bytes = codes ".llvm." ++ decimal (leading_number (sha1 bytes))
