-- What decimals are written in.
use Rattle.std.proofs.Common.{◌≡◌, ℕ, zero, suc, ◌/◌, ◌%◌, ◌<◌, Bool, true, false, cond, ◌==◌, List, [], ◌∷◌, refl, subst, arith, decimal}
use Rattle.std.specs.Char.{is_ascii_digit}
use Rattle.std.specs.Fmt.{digit_glyph, digits_onto, digits}
use Rattle.ir_lex.specs.Bytes.{has}
use Rattle.ir_lex.specs.declared.bytes.Set.TheVariants.{Digits}
use Rattle.ir_lex.proofs.Spelled.{AllIn}

-- digits, of which there is one
pub record Numeral (text : List ℕ) : Type 0 where
  pub first : ℕ
  pub others : List ℕ
  pub whole : text ≡ first ∷ others
  pub digits : AllIn Digits (first ∷ others)

glyph : (n : ℕ) → has Digits (digit_glyph false (n % 10)) ≡ true
unfolding has
glyph n = one (n % 10) (omega arith)
  where
    one : (d : ℕ) → d < 10 → is_ascii_digit (digit_glyph false d) ≡ true
    one d lt = grind arith

onto : (k n d : ℕ) (ds : List ℕ) → AllIn Digits (d ∷ ds) → Numeral (digits_onto k 10 false n (d ∷ ds))
onto zero n d ds a = record { first = d; others = ds; whole = refl; digits = a }
onto (suc k) n d ds a = by_test (n / 10 == 0) (onto k (n / 10) (digit_glyph false (n % 10)) (d ∷ ds) (glyph n, a))
  where
    by_test : (b : Bool) → Numeral (digits_onto k 10 false (n / 10) (digit_glyph false (n % 10) ∷ d ∷ ds)) → Numeral (cond b (digit_glyph false (n % 10) ∷ d ∷ ds) (digits_onto k 10 false (n / 10) (digit_glyph false (n % 10) ∷ d ∷ ds)))
    by_test true more = record { first = digit_glyph false (n % 10); others = d ∷ ds; whole = refl; digits = (glyph n, a) }
    by_test false more = more

start : (k n : ℕ) → Numeral (digits_onto (suc k) 10 false n [])
start k n = by_test (n / 10 == 0)
  where
    by_test : (b : Bool) → Numeral (cond b (digit_glyph false (n % 10) ∷ []) (digits_onto k 10 false (n / 10) (digit_glyph false (n % 10) ∷ [])))
    by_test true = record { first = digit_glyph false (n % 10); others = []; whole = refl; digits = (glyph n, tt) }
    by_test false = onto k (n / 10) (digit_glyph false (n % 10)) [] (glyph n, tt)

all_digits : (n : ℕ) → digits_onto 64 10 false n [] ≡ decimal n
unfolding digits
all_digits n = refl

pub numeral : (n : ℕ) → Numeral (decimal n)
numeral n = subst Numeral (all_digits n) (start 63 n)
