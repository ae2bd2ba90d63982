-- Each type of a register is written by some token.
use Rattle.std.proofs.Common.{◌≡◌, ℕ, zero, suc, ◌+◌, ◌<◌, ◌≤◌, Bool, true, false, cond, ◌&&◌, not, nat_eq, nat_lt, max, min, List, [], ◌∷◌, ◌++◌, length, drop, refl, sym, subst, arith}
use Rattle.std.specs.Prelude.{codes, ◌/◌, ◌%◌}
use Rattle.ir_lex.specs.Bytes.{has}
use Rattle.ir_lex.specs.declared.token_kind.TokenKind.TheVariants as kinds
use Rattle.ir_lex.specs.declared.rows.Fit.{Fit}
use Rattle.ir_lex.specs.declared.token.TokenForm.{TokenForm}
use Rattle.ir_lex.specs.declared.token.TokenForm.TheVariants as forms
use Rattle.ir_lex.specs.TokenKinds.{number, kind_of, word_kind, listed_kind, words_2, words_3, width_of}
use Rattle.ir_lex.specs.Lexing.{is_bad}
use Rattle.ir_lex.specs.Quotes.{is_zero_name}
use Rattle.ir_lex.specs.Rows.{best_fit, rest_fit, fit, label_len, number_len, word_len, name_len, meta_len, dots_len, other_len, string_len}
use Rattle.ir_lex.specs.Tok.{Tok}
use Rattle.ir_tree.specs.declared.operand.Reg.{Reg}
use Rattle.ir_tree.specs.declared.operand.Reg.TheVariants.{Int, Ptr}
use Rattle.ir_parse_parts.specs.Alphabet.{among}
use Rattle.ir_parse_parts.specs.Classes.{tokens, IsReal}
use Rattle.ir_parse_parts.specs.Operands.{REG, reg_of, width}
use Rattle.ir_parse_parts.proofs.Singles.{word}
use Rattle.ir_parse_parts.proofs.Words.{pointer_real}
use Rattle.ir_parse_bodies.specs.Calls.{same_reg}

-- a token that writes this type
pub record Writes (r : Reg) : Type 0 where
  pub it : Tok
  pub is_reg : among tokens REG it ≡ true
  pub same : same_reg r (reg_of it) ≡ true
  pub real : IsReal it

-- ---- the types of integers: iN

abbrev digits : ℕ → List ℕ
digits n = cond (nat_lt n 10) ((48 + n) ∷ []) ((48 + n / 10) ∷ (48 + n % 10) ∷ [])

abbrev written : ℕ → List ℕ
written n = 105 ∷ digits n

abbrev integer : ℕ → Tok
integer n = word (kind_of forms.Word (written n) []) (written n)

abbrev is_word : TokenForm → Bool
is_word forms.Word = true
is_word k = false

word_is : (k : TokenForm) → is_word k ≡ true → k ≡ forms.Word
word_is forms.Word e = refl
word_is k e = absurd cc

fit_is : (f : Fit) (k : TokenForm) (n : ℕ) → f.form ≡ k → f.len ≡ n → f ≡ fit k n
fit_is f k n p q = subst (λ (x : TokenForm). f ≡ fit x n) p (subst (λ (m : ℕ). f ≡ fit f.form m) q refl)

-- a test of each number from 1 to one
abbrev all_to : (ℕ → Bool) → ℕ → Bool
all_to test zero = true
all_to test (suc n) = test (suc n) && all_to test n

both : (a b : Bool) → a && b ≡ true → (a ≡ true) × (b ≡ true)
both true b h = (refl, h)
both false b h = absurd cc

equal : (n m : ℕ) → nat_eq n m ≡ true → n ≡ m
equal n m h = grind arith

below : (n m : ℕ) → nat_eq n (suc m) ≡ false → n ≤ suc m → n ≤ m
below n m h le = grind (arith, le)

holds_at : (test : ℕ → Bool) (most n : ℕ) → all_to test most ≡ true → 0 < n → n ≤ most → test n ≡ true
holds_at test zero n h lt le = absurd (omega (arith, lt, le))
holds_at test (suc most) n h lt le = by_equal (λ k. holds_at test most n (both (test (suc most)) (all_to test most) h).1 lt k) (nat_eq n (suc most)) refl
  where
    by_equal : (n ≤ most → test n ≡ true) → (b : Bool) → nat_eq n (suc most) ≡ b → test n ≡ true
    by_equal again true e = subst (λ (m : ℕ). test m ≡ true) (sym (equal n (suc most) e)) (both (test (suc most)) (all_to test most) h).0
    by_equal again false e = again (below n most e le)

abbrev has_bytes : ℕ → Bool
has_bytes n = nat_lt 0 (length (written n))

abbrev fits_word : ℕ → Bool
fits_word n = is_word (best_fit (written n ++ [])).form

abbrev fits_whole : ℕ → Bool
fits_whole n = nat_eq (best_fit (written n ++ [])).len (length (written n))

abbrev is_good : ℕ → Bool
is_good n = not (is_bad (written n ++ []))

abbrev has_class : ℕ → Bool
has_class n = among tokens REG (integer n)

abbrev has_width : ℕ → Bool
has_width n = same_reg (Int n) (reg_of (integer n))

all_have_bytes : all_to has_bytes 64 ≡ true
all_have_bytes = refl

all_fit_words : all_to fits_word 64 ≡ true
unfolding best_fit rest_fit label_len number_len word_len name_len meta_len dots_len other_len string_len has
all_fit_words = refl

all_fit_whole : all_to fits_whole 64 ≡ true
unfolding best_fit rest_fit label_len number_len word_len name_len meta_len dots_len other_len string_len has
all_fit_whole = refl

all_are_good : all_to is_good 64 ≡ true
unfolding best_fit rest_fit label_len number_len word_len name_len meta_len dots_len other_len string_len has is_bad is_zero_name
all_are_good = refl

all_have_classes : all_to has_class 64 ≡ true
unfolding kind_of word_kind listed_kind words_2 words_3 has
all_have_classes = refl

all_have_widths : all_to has_width 64 ≡ true
unfolding kind_of word_kind listed_kind words_2 words_3 has
all_have_widths = refl

not_so : (b : Bool) → not b ≡ true → b ≡ false
not_so true h = absurd cc
not_so false h = refl

integer_written : (n : ℕ) → 0 < n → n ≤ 64 → Writes (Int n)
integer_written n lt le = record {
  it = integer n;
  is_reg = holds_at has_class 64 n all_have_classes lt le;
  same = holds_at has_width 64 n all_have_widths lt le;
  real = record {
    behind = [];
    some = holds_at has_bytes 64 n all_have_bytes lt le;
    fits = fit_is (best_fit (written n ++ [])) forms.Word (length (written n)) (word_is (best_fit (written n ++ [])).form (holds_at fits_word 64 n all_fit_words lt le)) (equal (best_fit (written n ++ [])).len (length (written n)) (holds_at fits_whole 64 n all_fit_whole lt le));
    good = not_so (is_bad (written n ++ [])) (holds_at is_good 64 n all_are_good lt le);
    class = refl;
  };
}

some_width : (m : ℕ) → 0 < min 64 (max 1 m)
some_width m = omega arith

most_width : (m : ℕ) → min 64 (max 1 m) ≤ 64
most_width m = omega arith

-- ---- any type that a token writes

pub writes : (w : Tok) → Writes (reg_of w)
writes w = by_test (nat_eq (number w.kind) (number kinds.Ptr))
  where
    by_test : (b : Bool) → Writes (cond b Ptr (Int (width w)))
    by_test true = record { it = word kinds.Ptr (codes "ptr"); is_reg = refl; same = refl; real = pointer_real }
    by_test false = integer_written (width w) (some_width (width_of (drop 1 w.text))) (most_width (width_of (drop 1 w.text)))
