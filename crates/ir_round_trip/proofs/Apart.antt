-- Bytes that end a token, and how far sets of bytes reach before them.
use Rattle.std.proofs.Common.{◌≡◌, ℕ, suc, true, false, ◌||◌, nat_eq, List, [], ◌∷◌, ◌++◌, length, drop, refl, sym, subst, ◌⊎◌, inl, inr, arith}
use Rattle.std.specs.Char.{is_ascii_digit}
use Rattle.ir_lex.specs.Blanks.{is_blank}
use Rattle.ir_lex.specs.Bytes.{starts_name, starts_word, has}
use Rattle.ir_lex.specs.Rows.{begins, string_len}
use Rattle.ir_lex.specs.declared.bytes.Set.TheVariants.{Digits, LabelBytes, WordBytes}
use Rattle.ir_lex.proofs.Spelled.{AllIn, Ends}

-- a byte that goes on with no word, name, number or label, and begins no string
pub record IsApart (b : ℕ) : Type 0 where
  pub no_label : has LabelBytes b ≡ false
  pub no_colon : nat_eq b 58 ≡ false
  pub no_quote : nat_eq b 34 ≡ false

abbrev pub Apart : List ℕ → Type 0
Apart [] = Unit {0}
Apart (b ∷ bs) = IsApart b

-- ---- blanks

pub blank_apart : (b : ℕ) → is_blank b ≡ true → IsApart b
unfolding has
blank_apart b h = by_value (which b h)
  where
    which : (b : ℕ) → is_blank b ≡ true → (b ≡ 32) ⊎ ((b ≡ 9) ⊎ ((b ≡ 13) ⊎ (b ≡ 10)))
    which b h = grind arith

    by_value : (b ≡ 32) ⊎ ((b ≡ 9) ⊎ ((b ≡ 13) ⊎ (b ≡ 10))) → IsApart b
    by_value (inl e) = subst IsApart (sym e) (record { no_label = refl; no_colon = refl; no_quote = refl })
    by_value (inr (inl e)) = subst IsApart (sym e) (record { no_label = refl; no_colon = refl; no_quote = refl })
    by_value (inr (inr (inl e))) = subst IsApart (sym e) (record { no_label = refl; no_colon = refl; no_quote = refl })
    by_value (inr (inr (inr e))) = subst IsApart (sym e) (record { no_label = refl; no_colon = refl; no_quote = refl })

-- ---- what stops before them

pub ends_digits : (rest : List ℕ) → Apart rest → Ends Digits rest
unfolding has
ends_digits [] a = tt
ends_digits (b ∷ bs) a = by_byte b a.no_label
  where
    by_byte : (b : ℕ) → starts_name b || is_ascii_digit b ≡ false → is_ascii_digit b ≡ false
    by_byte b h = grind arith

pub ends_word : (rest : List ℕ) → Apart rest → Ends WordBytes rest
unfolding has
ends_word [] a = tt
ends_word (b ∷ bs) a = by_byte b a.no_label
  where
    by_byte : (b : ℕ) → starts_name b || is_ascii_digit b ≡ false → starts_word b || (is_ascii_digit b || nat_eq b 46) ≡ false
    by_byte b h = grind arith

pub ends_label : (rest : List ℕ) → Apart rest → Ends LabelBytes rest
ends_label [] a = tt
ends_label (b ∷ bs) a = a.no_label

pub no_colon : (rest : List ℕ) → Apart rest → begins 58 rest ≡ false
no_colon [] a = refl
no_colon (b ∷ bs) a = a.no_colon

pub no_quote : (rest : List ℕ) → Apart rest → begins 34 rest ≡ false
no_quote [] a = refl
no_quote (b ∷ bs) a = a.no_quote

pub no_string : (rest : List ℕ) → begins 34 rest ≡ false → string_len rest ≡ 0
unfolding string_len
no_string [] a = refl
no_string (b ∷ bs) a = rw a refl

-- ---- sets

pub digit_label : (xs : List ℕ) → AllIn Digits xs → AllIn LabelBytes xs
unfolding has
digit_label [] a = tt
digit_label (x ∷ xs) a = (by_byte x a.0, digit_label xs a.1)
  where
    by_byte : (b : ℕ) → is_ascii_digit b ≡ true → starts_name b || is_ascii_digit b ≡ true
    by_byte b h = grind arith

pub digit_word : (xs : List ℕ) → AllIn Digits xs → AllIn WordBytes xs
unfolding has
digit_word [] a = tt
digit_word (x ∷ xs) a = (by_byte x a.0, digit_word xs a.1)
  where
    by_byte : (b : ℕ) → is_ascii_digit b ≡ true → starts_word b || (is_ascii_digit b || nat_eq b 46) ≡ true
    by_byte b h = grind arith

pub word_label : (xs : List ℕ) → AllIn WordBytes xs → AllIn LabelBytes xs
unfolding has
word_label [] a = tt
word_label (x ∷ xs) a = (by_byte x a.0, word_label xs a.1)
  where
    by_byte : (b : ℕ) → starts_word b || (is_ascii_digit b || nat_eq b 46) ≡ true → starts_name b || is_ascii_digit b ≡ true
    by_byte b h = grind arith

-- a byte of a word is no quote
pub word_no_quote : (xs rest : List ℕ) → AllIn WordBytes xs → Apart rest → begins 34 (xs ++ rest) ≡ false
unfolding has
word_no_quote [] rest a p = no_quote rest p
word_no_quote (x ∷ xs) rest a p = by_byte x a.0
  where
    by_byte : (b : ℕ) → starts_word b || (is_ascii_digit b || nat_eq b 46) ≡ true → nat_eq b 34 ≡ false
    by_byte b h = grind arith

pub dropped : (xs rest : List ℕ) → drop (length xs) (xs ++ rest) ≡ rest
dropped [] rest = refl
dropped (x ∷ xs) rest = dropped xs rest

pub not_zero : (n : ℕ) → (nat_eq (suc n) 0 ≡ false) × (nat_eq 0 (suc n) ≡ false)
not_zero n = (grind arith, grind arith)
