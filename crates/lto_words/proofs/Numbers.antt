-- Numbers in decimal digits.
use Rattle.std.proofs.Common.{◌≡◌, ◌<◌, ◌^◌, ◌&&◌, ◌==◌, ℕ, zero, suc, refl, Bool, true, false, not, cond, length, Option, Some, None, Result, Ok, Err, rules, arith, nat_lt, ltb-true}
use Rattle.std.specs.Char.{is_ascii_digit}
use Rattle.std.specs.List.{list_all}
use Rattle.std.specs.Str.Parse.{IsNumeral, digits_value, without_leading_plus}
use Rattle.std.proofs.lemmas.Str.Parse.{IsDigitsTest, IsNumeralModel, numerals_by_value, parse_digits}
use Rattle.clap.specs.Words.{Text}
use Rattle.lto_words.specs.Values.{is_numeral, within_64}

tells_digits : IsDigitsTest (λ ds. list_all is_ascii_digit ds ≡ true)
tells_digits = search rules

digits : IsNumeralModel (λ ds. list_all is_ascii_digit ds ≡ true) (digits_value 10)
digits = numerals_by_value (λ ds. list_all is_ascii_digit ds ≡ true) tells_digits

both : (a b : Bool) → (a && b) ≡ true → (a ≡ true) × (b ≡ true)
both true b e = (refl, e)
both false b e = absurd (cc)

positive : (n : ℕ) → not (n == 0) ≡ true → 0 < n
positive zero e = absurd (cc)
positive (suc n) e = omega arith

-- digits that 64 bits don't hold
pub too_wide : (text : Text) → ((IsNumeral 10 (without_leading_plus text) × (digits_value 10 (without_leading_plus text) < 2 ^ 64)) → ⊥)
    → is_numeral text ≡ true → None ≡ within_64 (digits_value 10 text)
too_wide text unread numeral = go (nat_lt (digits_value 10 text) (2 ^ 64)) refl
  where
    parts : (not (length text == 0) ≡ true) × (list_all is_ascii_digit text ≡ true)
    parts = both (not (length text == 0)) (list_all is_ascii_digit text) numeral

    not_read : ((0 < length text) × (digits_value 10 text < 2 ^ 64)) → ⊥
    not_read = parse_digits digits {E = ℕ} 64 text (Err 0) unread parts.1

    go : (b : Bool) → nat_lt (digits_value 10 text) (2 ^ 64) ≡ b → None ≡ cond b (Some (digits_value 10 text)) None
    go true e = absurd (not_read (positive (length text) parts.0, ltb-true (digits_value 10 text) (2 ^ 64) e))
    go false e = refl
