-- Sets of bytes, and how far they reach.
use Rattle.std.specs.Prelude.{ℕ, suc, Bool, ◌||◌, not, nat_eq, if◌then◌else◌, List, [], ◌∷◌}
use Rattle.std.specs.Char.{is_ascii_alphabetic, is_ascii_digit}
use Rattle.ir_lex.specs.declared.bytes.Set.{Set}
use Rattle.ir_lex.specs.declared.bytes.Set.TheVariants.{Digits, LabelBytes, WordBytes, MetaBytes, Inside}

-- -a-zA-Z$._
abbrev pub starts_name : ℕ → Bool
starts_name b = is_ascii_alphabetic b || (nat_eq b 45 || (nat_eq b 36 || (nat_eq b 46 || nat_eq b 95)))

-- a-zA-Z_
abbrev pub starts_word : ℕ → Bool
starts_word b = is_ascii_alphabetic b || nat_eq b 95

unfoldable pub has : Set → ℕ → Bool
has Digits b = is_ascii_digit b
has LabelBytes b = starts_name b || is_ascii_digit b
has WordBytes b = starts_word b || (is_ascii_digit b || nat_eq b 46)
has MetaBytes b = (starts_name b || is_ascii_digit b) || nat_eq b 92
has Inside b = not (nat_eq b 34)

-- how many bytes at the front are of the set
abbrev pub run : Set → List ℕ → ℕ
run set [] = 0
run set (b ∷ bs) = if has set b then suc (run set bs) else 0
