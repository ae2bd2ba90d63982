-- Printed decimals write the numbers that they were printed from (LangRef, "Simple Constants").
use Rattle.std.proofs.Common.{◌≡◌, ℕ, ◌+◌, ◌-◌, ◌*◌, ◌%◌, ◌^◌, ◌<◌, ◌≤◌, Bool, true, false, cond, nat_eq, nat_lt, nat_le, Option, Some, None, List, [], ◌∷◌, drop, decimal, refl, ap, ◌∙◌, arith, mod-eq_of_lt, pow_mono}
use Rattle.std.specs.Char.{digit_value, is_ascii_digit}
use Rattle.std.specs.List.{fold}
use Rattle.std.specs.Str.Parse.{AllDigits, digits_value_after}
use Rattle.std.proofs.lemmas.Fmt.{decimal_is_IsNumeral}
use Rattle.std.proofs.lemmas.Nat.{pow_pos}
use Rattle.ir_lex.specs.Bytes.{has}
use Rattle.ir_lex.specs.Rows.{begins}
use Rattle.ir_print.specs.Tokens.{signed}
use Rattle.ir_parse_parts.specs.Decimals as read
use Rattle.ir_parse_parts.specs.Decimals.{with_digit}
use Rattle.ir_parse_parts.specs.Literals.{literal, unsigned, negated}
use Rattle.ir_parse_parts.proofs.Widths.{half_pow}
use Rattle.ir_tree.specs.Formed.{IsWidth}
use Rattle.ir_round_trip.proofs.Numbers.{numeral}
use Rattle.ir_round_trip.proofs.Tokens.{NonEmpty}

-- ---- digits

digit : (c : ℕ) → digit_value c < 10 → digit_value c ≡ c - 48
digit c h = grind arith

folded : (n : ℕ) (ds : List ℕ) → AllDigits 10 ds → fold with_digit n ds ≡ digits_value_after 10 n ds
folded n [] a = refl
folded n (c ∷ cs) a = ap (λ (m : ℕ). fold with_digit m cs) step ∙ folded (n * 10 + digit_value c) cs a.1
  where
    step : with_digit n c ≡ n * 10 + digit_value c
    step = omega (arith, digit c a.0)

-- what a printed number writes
pub decimal_again : (n : ℕ) → n < 2 ^ 64 → read.decimal (decimal n) ≡ n
decimal_again n h = let k = decimal_is_IsNumeral n h in folded 0 (decimal n) k.0.1 ∙ k.1

-- a printed number begins with a digit, so with no minus
pub no_minus : (n : ℕ) → begins 45 (decimal n) ≡ false
unfolding has
no_minus n = let t = numeral n in ap (begins 45) t.whole ∙ by_digit t.first t.digits.0
  where
    by_digit : (d : ℕ) → is_ascii_digit d ≡ true → nat_eq d 45 ≡ false
    by_digit d h = grind arith

pub decimal_nonempty : (n : ℕ) → NonEmpty (decimal n)
decimal_nonempty n = let t = numeral n in record { first = t.first; others = t.others; whole = t.whole }

-- ---- literals

by_minus : (b : Bool) (x y : Option ℕ) → b ≡ false → cond b x y ≡ y
by_minus true x y e = absurd cc
by_minus false x y e = refl

less : (n m : ℕ) → n < m → nat_lt n m ≡ true
less n m h = grind arith

at_most : (n m : ℕ) → n ≤ m → nat_le n m ≡ true
at_most n m h = grind arith

below : (n m : ℕ) → nat_lt n m ≡ true → n < m
below n m h = grind arith

not_below : (n m : ℕ) → nat_lt n m ≡ false → m ≤ n
not_below n m h = grind arith

pub unsigned_again : (w n : ℕ) → n < 2 ^ w → n < 2 ^ 64 → literal w (decimal n) ≡ Some n
unfolding literal
unsigned_again w n lt small =
    by_minus (begins 45 (decimal n)) (negated w (read.decimal (drop 1 (decimal n)))) (unsigned w (read.decimal (decimal n))) (no_minus n)
    ∙ ap (unsigned w) (decimal_again n small)
    ∙ ap (λ (b : Bool). cond b (Some n) None) (less n (2 ^ w) lt)

negative_again : (w n bits : ℕ) → n ≤ 2 ^ (w - 1) → n < 2 ^ 64 → 2 ^ w - n ≡ bits → bits < 2 ^ w → literal w (45 ∷ decimal n) ≡ Some bits
unfolding literal
negative_again w n bits le small e lt =
    ap (negated w) (decimal_again n small)
    ∙ ap (λ (b : Bool). cond b (Some ((2 ^ w - n) % 2 ^ w)) None) (at_most n (2 ^ (w - 1)) le)
    ∙ ap Some (ap (λ (m : ℕ). m % 2 ^ w) e ∙ mod-eq_of_lt lt)

most : (w : ℕ) → w ≤ 64 → 2 ^ w ≤ 2 ^ 64
most w le = pow_mono {i = w} {j = 64} le

-- a signed decimal of a width stands for its bits
pub signed_again : (w bits : ℕ) → IsWidth w → bits < 2 ^ w → literal w (signed w bits) ≡ Some bits
signed_again w bits width lt = by_sign (nat_lt bits (2 ^ (w - 1))) refl
  where
    by_sign : (b : Bool) → nat_lt bits (2 ^ (w - 1)) ≡ b → literal w (cond b (decimal bits) (45 ∷ decimal (2 ^ w - bits))) ≡ Some bits
    by_sign true e = unsigned_again w bits lt (omega (arith, lt, most w width.1))
    by_sign false e =
        let half = half_pow w width.0 in
        let reached = not_below bits (2 ^ (w - 1)) e in
        negative_again w (2 ^ w - bits) bits (omega (arith, half, reached)) (omega (arith, lt, most w width.1, half, reached, pow_pos (w - 1))) (omega (arith, lt)) lt

pub signed_nonempty : (w bits : ℕ) → NonEmpty (signed w bits)
signed_nonempty w bits = by_sign (nat_lt bits (2 ^ (w - 1)))
  where
    by_sign : (b : Bool) → NonEmpty (cond b (decimal bits) (45 ∷ decimal (2 ^ w - bits)))
    by_sign true = decimal_nonempty bits
    by_sign false = record { first = 45; others = decimal (2 ^ w - bits); whole = refl }
