-- Brackets of numbered kinds, as plain data.
use Rattle.std.specs.Prelude.{ℕ, nat_eq, [], ◌∷◌}
use Rattle.ir_parse_parts.specs.Alphabet.{Alphabet}
use Rattle.ir_parse_parts.specs.Balanced as balanced
use Rattle.ir_parse_parts.specs.Balanced.{Brackets, Move}

pub data Mark : Type 0 where
  opens : ℕ → Mark
  closes : ℕ → Mark
  plain : Mark

abbrev pub class_of : Mark → ℕ
class_of (opens n) = 0
class_of (closes n) = 1
class_of plain = 2

abbrev pub marks : Alphabet Mark
marks = record { class = class_of; numerals = 2 ∷ []; literals = 2 ∷ []; Real = λ t. Unit {0} }

abbrev pub move_of : Mark → Move ℕ
move_of (opens n) = balanced.opens n
move_of (closes n) = balanced.closes n
move_of plain = balanced.stays

abbrev pub numbered : Brackets Mark ℕ
numbered = record { move = move_of; same = nat_eq }
