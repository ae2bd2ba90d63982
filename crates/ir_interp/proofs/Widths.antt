-- Numbers of so many bits.
use Rattle.std.proofs.Common.{◌≡◌, ◌<◌, ℕ, ◌*◌, ◌+◌, Bool, true, false, nat_eq, nat_lt, ◌≤◌, refl, sym, subst, arith}
use Rattle.std.specs.Prelude.{◌/◌, ◌%◌, ◌^◌}
use Rattle.std.proofs.lemmas.Bool.{eq-eqb, eqb-true, lt-ltb, ltb-true, ltb-false}
use Rattle.std.proofs.Math.Pow.{pow_mono}
use Rattle.std.proofs.lemmas.Nat.{div_below, mod_below, pow_pos, shr_split}

-- a shift leaves nothing of a number exactly where it has no more bits
pub none_left : (n w : ℕ) → nat_eq (n / 2 ^ w) 0 ≡ nat_lt n (2 ^ w)
none_left n w = by (nat_lt n (2 ^ w)) refl
  where
    not_zero : (c : Bool) → nat_eq (n / 2 ^ w) 0 ≡ c → nat_lt n (2 ^ w) ≡ false → c ≡ false
    not_zero false e h = refl
    not_zero true e h =
        let none = eqb-true (n / 2 ^ w) 0 e in
        let split : 0 * 2 ^ w + n % 2 ^ w ≡ n = subst (λ (q : ℕ). q * 2 ^ w + n % 2 ^ w ≡ n) none (shr_split n w) in
        let low = mod_below n (2 ^ w) (pow_pos w) in
        let high = ltb-false n (2 ^ w) h in
        absurd (omega (arith, split, low, high))

    by : (b : Bool) → nat_lt n (2 ^ w) ≡ b → nat_eq (n / 2 ^ w) 0 ≡ b
    by true h =
        let below = ltb-true n (2 ^ w) h in
        let one : n / 2 ^ w < 1 = div_below n (2 ^ w) 1 (pow_pos w) (omega (arith, below)) in
        eq-eqb (n / 2 ^ w) 0 (omega (arith, one))
    by false h = not_zero (nat_eq (n / 2 ^ w) 0) refl h

-- a number of a machine's word has no more bits than any wider word
pub wide : (n w : ℕ) → n < 2 ^ 64 → 64 ≤ w → true ≡ nat_lt n (2 ^ w)
wide n w small high = sym (lt-ltb n (2 ^ w) (below n (2 ^ 64) (2 ^ w) small (pow_mono high)))
  where
    below : (a b c : ℕ) → a < b → b ≤ c → a < c
    below a b c h k = omega (arith, h, k)
