-- What a local, a label or a type is known by: the bytes of its name, or a number that is written in its place.
use Rattle.std.specs.Prelude.{ℕ, ◌+◌, ◌*◌, ◌-◌, ◌<◌, ◌^◌, Bool, false, nat_eq, nat_lt, if◌then◌else◌, List, [], ◌∷◌, Option, None, Some}
use Rattle.std.specs.Char.{is_ascii_digit}
use Rattle.std.specs.List.{list_all}
use Rattle.std.specs.Str.{bytes_eq}
use Rattle.ir_lex.specs.Quotes.{stripped, content}
use Rattle.ir_lex.specs.Tok.{Tok}

pub data Key : Type 0 where
  spelled : (name : List ℕ) → Key
  written : (number : ℕ) → Key

-- the number that the digits write, behind those that write n
abbrev pub decimal_from : ℕ → List ℕ → ℕ
decimal_from n [] = n
decimal_from n (d ∷ ds) = decimal_from (n * 10 + (d - 48)) ds

unfoldable pub decimal_of : List ℕ → ℕ
decimal_of digits = decimal_from 0 digits

-- at least one decimal digit, and nothing else
abbrev pub is_numeral : List ℕ → Bool
is_numeral [] = false
is_numeral (d ∷ ds) = list_all is_ascii_digit (d ∷ ds)

-- the number that stands for a name; the reader refuses numbers past 2 ^ 32 - 1
unfoldable pub number_of : Tok → Option ℕ
number_of t =
    let bare = stripped t.form t.text in
    if is_numeral bare then (if nat_lt (decimal_of bare) (2 ^ 32) then Some (decimal_of bare) else None) else None

unfoldable pub key_of : Tok → Key
key_of t = elim (number_of t) [ None ↦ spelled (content t.form t.text) | Some n ↦ written n ]

-- a key that a text can write: its number is below 2 ^ 32
abbrev pub IsWritten : Key → Type 0
IsWritten (spelled name) = Unit {0}
IsWritten (written n) = n < 2 ^ 32

abbrev pub same_key : Key → Key → Bool
same_key (spelled a) (spelled b) = bytes_eq a b
same_key (written m) (written n) = nat_eq m n
same_key (spelled a) (written n) = false
same_key (written m) (spelled b) = false
