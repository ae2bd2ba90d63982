-- The bits of a literal are those of its width.
use Rattle.std.proofs.Common.{◌≡◌, refl, ℕ, ◌-◌, ◌%◌, ◌^◌, ◌<◌, nat_le, nat_lt, Bool, true, false, List, drop, Some, None, subst, arith, if◌then◌else◌}
use Rattle.std.proofs.lemmas.Bool.{ltb-true}
use Rattle.std.proofs.lemmas.Nat.{pow_pos}
use Rattle.ir_lex.specs.Rows.{begins}
use Rattle.ir_parse_parts.specs.Decimals.{decimal}
use Rattle.ir_parse_parts.specs.Literals.{literal, negated, unsigned}

rem_below : (x m : ℕ) → 0 < m → x % m < m
rem_below x m h = omega arith

pub literal_fits : (w : ℕ) (text : List ℕ) (bits : ℕ) → literal w text ≡ Some bits → bits < 2 ^ w
unfolding literal
literal_fits w text bits e = by (begins 45 text) e
  where
    minus : (n : ℕ) (b : Bool) → (if b then Some ((2 ^ w - n) % 2 ^ w) else None) ≡ Some bits → bits < 2 ^ w
    minus n true e = let same : (2 ^ w - n) % 2 ^ w ≡ bits = cc in subst (λ k. k < 2 ^ w) same (rem_below (2 ^ w - n) (2 ^ w) (pow_pos w))
    minus n false e = absurd cc

    plain : (n : ℕ) (b : Bool) → nat_lt n (2 ^ w) ≡ b → (if b then Some n else None) ≡ Some bits → bits < 2 ^ w
    plain n true g e = let same : n ≡ bits = cc (e) in subst (λ k. k < 2 ^ w) same (ltb-true n (2 ^ w) g)
    plain n false g e = absurd (let no : None ≡ Some bits = e in cc)

    by : (b : Bool) → (if b then negated w (decimal (drop 1 text)) else unsigned w (decimal text)) ≡ Some bits → bits < 2 ^ w
    by true e = minus (decimal (drop 1 text)) (nat_le (decimal (drop 1 text)) (2 ^ (w - 1))) e
    by false e = plain (decimal text) (nat_lt (decimal text) (2 ^ w)) refl e
