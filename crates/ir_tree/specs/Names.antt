-- Names of symbols as they are written: bare where each byte allows it, else between quotes (LangRef, "Identifiers").
use Rattle.std.specs.Prelude.{◌≡◌, ℕ, ◌<◌, ◌+◌, ◌-◌, ◌*◌, ◌/◌, ◌%◌, Bool, true, false, ◌&&◌, ◌||◌, not, nat_eq, nat_lt, nat_le, if◌then◌else◌, List, [], ◌∷◌, ◌++◌, Option, Some, None, length, take, drop}
use Rattle.std.specs.List.{list_all}
use Rattle.ir_tree.specs.declared.name.Escape.{Escape}
use Rattle.ir_tree.specs.declared.name.Escape.TheVariants.{Closed, Slash, Digit}

abbrev pub is_empty : List ℕ → Bool
is_empty [] = true
is_empty (c ∷ cs) = false

abbrev pub between : ℕ → ℕ → ℕ → Bool
between low high c = nat_le low c && nat_le c high

-- ---- what is written

-- a letter, or one of - $ . _
abbrev pub is_name_start : ℕ → Bool
is_name_start c = between 97 122 c || (between 65 90 c || (nat_eq c 45 || (nat_eq c 36 || (nat_eq c 46 || nat_eq c 95))))

abbrev pub is_name_byte : ℕ → Bool
is_name_byte c = is_name_start c || between 48 57 c

abbrev pub is_bare : List ℕ → Bool
is_bare [] = false
is_bare (c ∷ cs) = is_name_start c && list_all is_name_byte cs

-- the upper-case digit of a number below 16
abbrev pub hex_digit : ℕ → ℕ
hex_digit d = if nat_lt d 10 then 48 + d else 55 + d

-- printable, and neither a quote nor a backslash
abbrev pub is_plain : ℕ → Bool
is_plain c = between 32 126 c && (not (nat_eq c 34) && not (nat_eq c 92))

abbrev pub escaped : List ℕ → List ℕ
escaped [] = []
escaped (c ∷ cs) = if is_plain c then c ∷ escaped cs else 92 ∷ hex_digit (c / 16) ∷ hex_digit (c % 16) ∷ escaped cs

unfoldable pub quoted : List ℕ → List ℕ
quoted name = if is_bare name then name else 34 ∷ (escaped name ++ 34 ∷ [])

-- ---- what is read

abbrev pub is_hex : ℕ → Bool
is_hex c = between 48 57 c || (between 65 70 c || between 97 102 c)

abbrev pub hex_value : ℕ → ℕ
hex_value c = if nat_le c 57 then c - 48 else (if nat_le c 70 then c - 55 else c - 87)

-- what is open behind a byte of a string's content
abbrev pub opened : Escape → ℕ → Escape
opened Closed c = if nat_eq c 92 then Slash else Closed
opened Slash c = if is_hex c then Digit c else Closed
opened (Digit h) c = if is_hex c then Closed else (if nat_eq c 92 then Slash else Closed)

-- what the byte adds: a doubled backslash is one, a backslash and two digits are that byte, any other backslash stands for itself
abbrev pub given : Escape → ℕ → List ℕ
given Closed c = if nat_eq c 92 then [] else c ∷ []
given Slash c = if is_hex c then [] else (if nat_eq c 92 then 92 ∷ [] else 92 ∷ c ∷ [])
given (Digit h) c =
    if is_hex c then (16 * hex_value h + hex_value c) ∷ []
    else (if nat_eq c 92 then 92 ∷ h ∷ [] else 92 ∷ h ∷ c ∷ [])

-- what an escape stands for that the end cuts off
abbrev pub pending : Escape → List ℕ
pending Closed = []
pending Slash = 92 ∷ []
pending (Digit h) = 92 ∷ h ∷ []

-- what a string's content says
abbrev pub unescaped : Escape → List ℕ → List ℕ
unescaped state [] = pending state
unescaped state (c ∷ cs) = given state c ++ unescaped (opened state c) cs

-- the first quote is the last byte
abbrev pub closes : List ℕ → Bool
closes [] = false
closes (c ∷ cs) = if nat_eq c 34 then is_empty cs else closes cs

abbrev pub is_string : List ℕ → Bool
is_string [] = false
is_string (c ∷ cs) = nat_eq c 34 && closes cs

-- the name that is written so
unfoldable pub unquoted : List ℕ → Option (List ℕ)
unquoted bytes =
    if is_bare bytes then Some bytes
    else (if is_string bytes then Some (unescaped Closed (take (length bytes - 2) (drop 1 bytes))) else None)

-- an open escape holds a digit
abbrev pub IsOpen : Escape → Type 0
IsOpen Closed = Unit {0}
IsOpen Slash = Unit {0}
IsOpen (Digit h) = is_hex h ≡ true

abbrev pub AllBytes : List ℕ → Type 0
AllBytes [] = Unit {0}
AllBytes (c ∷ cs) = (c < 256) × AllBytes cs
