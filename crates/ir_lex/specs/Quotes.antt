-- What quoted text stands for: `\\` is a backslash, a backslash and two hexadecimal digits are that byte, any other
-- backslash is itself.
use Rattle.std.specs.Prelude.{◌≡◌, ℕ, zero, suc, ◌+◌, ◌-◌, ◌*◌, Bool, true, false, ◌&&◌, ◌||◌, nat_eq, if◌then◌else◌, Option, Some, None, List, [], ◌∷◌, take, drop, length}
use Rattle.ir_lex.specs.declared.token.TokenForm.{TokenForm}
use Rattle.ir_lex.specs.declared.token.TokenForm.TheVariants as forms
use Rattle.ir_lex.specs.declared.quotes.Escape.{Escape}
use Rattle.std.specs.Char.{digit_value, is_digit}

-- a byte, and how many bytes behind the first spell it
abbrev pub spells : ℕ → ℕ → Escape
spells byte behind = record { byte = byte; behind = behind }

-- what a backslash stands for before these bytes
abbrev pub escaped : List ℕ → Escape
escaped [] = spells 92 0
escaped (b ∷ []) = if nat_eq b 92 then spells 92 1 else spells 92 0
escaped (b ∷ c ∷ bs) = if nat_eq b 92 then spells 92 1 else (if is_digit b 16 && is_digit c 16 then spells (digit_value b * 16 + digit_value c) 2 else spells 92 0)

-- what the first byte stands for before the others
abbrev pub spelled_at : ℕ → List ℕ → Escape
spelled_at b bs = if nat_eq b 92 then escaped bs else spells b 0

-- the bytes that these stand for, of which so many at the front are spoken for
abbrev pub unescaped_behind : ℕ → List ℕ → List ℕ
unescaped_behind n [] = []
unescaped_behind zero (b ∷ bs) = (spelled_at b bs).byte ∷ unescaped_behind (spelled_at b bs).behind bs
unescaped_behind (suc n) (b ∷ bs) = unescaped_behind n bs

unfoldable pub unescaped : List ℕ → List ℕ
unescaped bs = unescaped_behind 0 bs

-- what stands between the quotes, where it begins with one
abbrev pub inside : List ℕ → Option (List ℕ)
inside [] = None
inside (b ∷ []) = None
inside (b ∷ c ∷ bs) = if nat_eq b 34 then Some (take (length bs) (c ∷ bs)) else None

-- a token's text without its sigil, its `c` or its colon
abbrev pub stripped : TokenForm → List ℕ → List ℕ
stripped forms.Label text = take (length text - 1) text
stripped forms.Number text = text
stripped forms.Word text = text
stripped forms.Local text = drop 1 text
stripped forms.Global text = drop 1 text
stripped forms.Comdat text = drop 1 text
stripped forms.Meta text = text
stripped forms.Group text = text
stripped forms.Str text = text
stripped forms.CStr text = drop 1 text
stripped forms.Dots text = text
stripped forms.Other text = text

-- what a token's text stands for: the name of a name, the bytes of a string
unfoldable pub content : TokenForm → List ℕ → List ℕ
content form text = elim (inside (stripped form text)) as (λ o. List ℕ) [ None ↦ stripped form text | Some quoted ↦ unescaped quoted ]

abbrev pub is_name : TokenForm → Bool
is_name forms.Label = true
is_name forms.Number = false
is_name forms.Word = false
is_name forms.Local = true
is_name forms.Global = true
is_name forms.Comdat = true
is_name forms.Meta = false
is_name forms.Group = false
is_name forms.Str = false
is_name forms.CStr = false
is_name forms.Dots = false
is_name forms.Other = false

abbrev pub has_zero : List ℕ → Bool
has_zero [] = false
has_zero (b ∷ bs) = nat_eq b 0 || has_zero bs

-- a name that holds a zero byte; a bare one has none
unfoldable pub is_zero_name : TokenForm → List ℕ → Bool
is_zero_name form text = is_name form && elim (inside (stripped form text)) as (λ o. Bool) [ None ↦ false | Some quoted ↦ has_zero (unescaped quoted) ]

abbrev pub has_backslash : List ℕ → Bool
has_backslash [] = false
has_backslash (b ∷ bs) = nat_eq b 92 || has_backslash bs

-- what it stands for stands in the text itself
unfoldable pub is_plain : TokenForm → List ℕ → Type 0
is_plain form text = elim (inside (stripped form text)) as (λ o. Type 0) [ None ↦ Unit {0} | Some quoted ↦ has_backslash quoted ≡ false ]
