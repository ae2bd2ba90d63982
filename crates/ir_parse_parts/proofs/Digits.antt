-- Digits behind a number make it no smaller.
use Rattle.std.proofs.Common.{ℕ, suc, ◌≤◌, ◌<◌, List, [], ◌∷◌, length, drop, get_or, subst, sym, arith, drop-cons}
use Rattle.std.specs.List.{fold}
use Rattle.ir_parse_parts.specs.Decimals.{with_digit}

pub grows : (digits : List ℕ) (n : ℕ) → n ≤ fold with_digit n digits
grows [] n = omega arith
grows (d ∷ ds) n = let h = grows ds (with_digit n d) in omega (arith, h)

-- past a bound with the digit at i, the whole is past it
pub past : (digits : List ℕ) (i n most : ℕ) → i < length digits → most ≤ with_digit n (get_or digits i 0) → most ≤ fold with_digit n (drop i digits)
past digits i n most lt le =
    subst (λ (x : List ℕ). most ≤ fold with_digit n x) (sym (drop-cons digits i 0 lt)) (let h = grows (drop (suc i) digits) (with_digit n (get_or digits i 0)) in omega (arith, h, le))
