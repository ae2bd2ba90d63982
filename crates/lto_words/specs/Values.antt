-- The forms of values: numbers, names, and lists of names and of signed decimals.
use Rattle.std.specs.Prelude.{◌≡◌, ◌==◌, ◌&&◌, ◌<◌, ◌≤◌, ◌^◌, ◌++◌, ℕ, Bool, true, false, not, List, [], ◌∷◌, length, map, fold, Option, Some, None, nat_lt, if◌then◌else◌}
use Rattle.std.specs.List.{list_all, list_any, slice_split}
use Rattle.std.specs.Option.{option_map_or}
use Rattle.std.specs.Char.{is_ascii_digit}
use Rattle.std.specs.Str.{bytes_eq}
use Rattle.std.specs.Str.Parse.{digits_value}
use Rattle.clap.specs.Lexer.{strip_byte}
use Rattle.clap.specs.Words.{Text}
use Rattle.lto_words.specs.declared.list.Decimal.{Decimal}

-- ---- numbers

-- decimal digits, one at least
abbrev pub is_numeral : Text → Bool
is_numeral text = not (length text == 0) && list_all is_ascii_digit text

-- one to ten decimal digits that write n, from `least` to `most`
pub record WritesNumber (least most : ℕ) (text : Text) (n : ℕ) : Type 0 where
  pub numeral : is_numeral text ≡ true
  pub short : length text ≤ 10
  pub value : n ≡ digits_value 10 text
  pub low : least ≤ n
  pub high : n ≤ most

-- the number, where 64 bits hold it
abbrev pub within_64 : ℕ → Option ℕ
within_64 n = if nat_lt n (2 ^ 64) then Some n else None

-- ---- names

-- a name isn't empty
abbrev pub IsName : Text → Text → Type 0
IsName text name = (0 < length text) × (name ≡ text)

abbrev pub is_empty : Text → Bool
is_empty text = length text == 0

-- ---- lists

-- what stands between the commas (44)
abbrev pub parts : Text → List Text
parts text = slice_split (λ c. c == 44) text

-- one more name, if it isn't there
abbrev pub with_name : List Text → Text → List Text
with_name names name = if list_any (bytes_eq name) names then names else names ++ name ∷ []

-- each name once, in the order in which they first come
abbrev pub once : List Text → List Text
once names = fold with_name [] names

-- a list of names, of which a name that comes twice counts once
abbrev pub AreNames : Text → List Text → Type 0
AreNames text names = (list_any is_empty (parts text) ≡ false) × (names ≡ once (parts text))

abbrev pub signed : Bool → Text → Option Decimal
signed negative digits =
    if is_numeral digits then Some (record { negative = negative; magnitude = within_64 (digits_value 10 digits) })
    else None

-- decimal digits behind a hyphen (45) or none
abbrev pub decimal : Text → Option Decimal
decimal text = option_map_or (signed true) (strip_byte 45 text) (signed false text)

-- a list of signed decimals
abbrev pub AreDecimals : Text → List Decimal → Type 0
AreDecimals text numbers = map decimal (parts text) ≡ map (λ d. Some d) numbers
