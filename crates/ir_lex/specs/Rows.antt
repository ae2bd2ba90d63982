-- The rows of the table of tokens: at each place the longest that fits counts, and of equals the first.
use Rattle.std.specs.Prelude.{◌≡◌, ℕ, zero, suc, max, Bool, false, ◌&&◌, not, nat_eq, nat_lt, if◌then◌else◌, List, [], ◌∷◌, drop}
use Rattle.ir_lex.specs.declared.token.TokenForm.{TokenForm}
use Rattle.ir_lex.specs.declared.token.TokenForm.TheVariants as forms
use Rattle.ir_lex.specs.declared.bytes.Set.TheVariants.{Digits, LabelBytes, WordBytes, MetaBytes, Inside}
use Rattle.ir_lex.specs.declared.rows.Fit.{Fit}
use Rattle.std.specs.Char.{is_ascii_graphic}
use Rattle.ir_lex.specs.Bytes.{starts_name, starts_word, run}

-- ---- the rows: how many bytes at the front the row's form takes at most, or 0

abbrev pub begins : ℕ → List ℕ → Bool
begins c [] = false
begins c (b ∷ bs) = nat_eq b c

-- one byte, and behind it something that is not empty
abbrev pub behind : ℕ → (List ℕ → ℕ) → List ℕ → ℕ
behind c len [] = 0
behind c len (b ∷ bs) = if nat_eq b c && nat_lt 0 (len bs) then suc (len bs) else 0

-- a string, with its quotes: it ends at the next quote
abbrev pub closed : ℕ → List ℕ → ℕ
closed n bs = if begins 34 (drop n bs) then suc (suc n) else 0

unfoldable pub string_len : List ℕ → ℕ
string_len [] = 0
string_len (b ∷ bs) = if nat_eq b 34 then closed (run Inside bs) bs else 0

abbrev pub before_colon : ℕ → List ℕ → ℕ
before_colon n bs = if nat_lt 0 n && begins 58 (drop n bs) then suc n else 0

unfoldable pub label_len : List ℕ → ℕ
label_len bs = max (before_colon (run LabelBytes bs) bs) (before_colon (string_len bs) bs)

-- no label begins at any of the first so many places
abbrev pub LabelFree : ℕ → List ℕ → Type 0
LabelFree zero bs = Unit {0}
LabelFree (suc n) [] = Unit {0}
LabelFree (suc n) (b ∷ bs) = (label_len (b ∷ bs) ≡ 0) × LabelFree n bs

unfoldable pub number_len : List ℕ → ℕ
number_len bs = max (run Digits bs) (behind 45 (run Digits) bs)

unfoldable pub word_len : List ℕ → ℕ
word_len [] = 0
word_len (b ∷ bs) = if starts_word b then suc (run WordBytes bs) else 0

abbrev pub bare_len : List ℕ → ℕ
bare_len [] = 0
bare_len (b ∷ bs) = if starts_name b then suc (run LabelBytes bs) else 0

unfoldable pub name_len : List ℕ → ℕ
name_len bs = max (bare_len bs) (max (run Digits bs) (string_len bs))

unfoldable pub meta_len : List ℕ → ℕ
meta_len [] = 0
meta_len (b ∷ bs) = if nat_eq b 33 then suc (run MetaBytes bs) else 0

unfoldable pub dots_len : List ℕ → ℕ
dots_len bs = if begins 46 bs && (begins 46 (drop 1 bs) && begins 46 (drop 2 bs)) then 3 else 0

unfoldable pub other_len : List ℕ → ℕ
other_len [] = 0
other_len (b ∷ bs) = if is_ascii_graphic b && not (nat_eq b 34) then 1 else 0

abbrev pub fit : TokenForm → ℕ → Fit
fit form len = record { form = form; len = len }

-- the longer of two, and of two alike the first
abbrev pub better : Fit → Fit → Fit
better a b = if nat_lt a.len b.len then b else a

abbrev pub longest : Fit → List Fit → Fit
longest f [] = f
longest f (g ∷ gs) = better f (longest g gs)

-- the rows but the first
unfoldable pub rest_fit : List ℕ → Fit
rest_fit bs = longest (fit forms.Number (number_len bs))
    (fit forms.Word (word_len bs)
    ∷ fit forms.Local (behind 37 name_len bs)
    ∷ fit forms.Global (behind 64 name_len bs)
    ∷ fit forms.Comdat (behind 36 name_len bs)
    ∷ fit forms.Meta (meta_len bs)
    ∷ fit forms.Group (behind 35 (run Digits) bs)
    ∷ fit forms.Str (string_len bs)
    ∷ fit forms.CStr (behind 99 string_len bs)
    ∷ fit forms.Dots (dots_len bs)
    ∷ fit forms.Other (other_len bs)
    ∷ [])

unfoldable pub best_fit : List ℕ → Fit
best_fit bs = better (fit forms.Label (label_len bs)) (rest_fit bs)

-- a byte that begins no row but those of digits, words and other bytes
pub record Plain (c : ℕ) : Type 0 where
  pub e37 : nat_eq c 37 ≡ false
  pub e64 : nat_eq c 64 ≡ false
  pub e36 : nat_eq c 36 ≡ false
  pub e35 : nat_eq c 35 ≡ false
  pub e45 : nat_eq c 45 ≡ false
  pub e33 : nat_eq c 33 ≡ false
  pub e34 : nat_eq c 34 ≡ false
  pub e46 : nat_eq c 46 ≡ false
