-- Powers of two as far as 64 bits.
use Rattle.std.proofs.Common.{◌≡◌, ℕ, zero, suc, ◌+◌, ◌-◌, ◌*◌, ◌/◌, ◌%◌, ◌^◌, ◌≤◌, ◌<◌, Option, Some, arith, refl, sym, ap, ◌∙◌, le-leb}
use Rattle.std.proofs.lemmas.Nat.{div-mul-add, pow-add, pow_pos}
use Rattle.std.proofs.Math.Nat.{mod-eq_of_lt}
use Rattle.ir_parse_parts.specs.Literals.{negated}

less_one : (p q a b n : ℕ) → a ≡ suc p → b ≡ suc q → a * b ≡ suc n → n / b + 1 ≡ a
less_one p q a b n ea eb e =
    let h : n ≡ p * suc q + q = products p q n (sym (ap (λ (x : ℕ). x * b) ea ∙ ap (λ (x : ℕ). suc p * x) eb) ∙ e) in
    let d : n / b ≡ p = ap (λ (x : ℕ). n / x) eb ∙ ap (λ (x : ℕ). x / suc q) h ∙ div-mul-add p (suc q) q (omega arith) in
    omega (arith, d, ea)
  where
    products : (p q n : ℕ) → suc p * suc q ≡ suc n → n ≡ p * suc q + q
    products p q n e = omega (arith, e)

pred_of : (n : ℕ) → 0 < n → (m : ℕ) × (n ≡ suc m)
pred_of zero h = absurd (omega arith)
pred_of (suc m) h = (m, refl)

-- 64 ones, shifted right so that w are left
pub all_ones : (w : ℕ) → w ≤ 64 → 18446744073709551615 / 2 ^ (64 - w) + 1 ≡ 2 ^ w
all_ones w le =
    let s : w + (64 - w) ≡ 64 = omega arith in
    let e : 2 ^ w * 2 ^ (64 - w) ≡ 18446744073709551616 = sym (pow-add 2 w (64 - w)) ∙ ap (λ (k : ℕ). 2 ^ k) s in
    let p = pred_of (2 ^ w) (pow_pos w) in
    let q = pred_of (2 ^ (64 - w)) (pow_pos (64 - w)) in
    less_one p.0 q.0 (2 ^ w) (2 ^ (64 - w)) 18446744073709551615 p.1 q.1 e

pub half_pow : (w : ℕ) → 0 < w → 2 ^ w ≡ 2 * 2 ^ (w - 1)
half_pow w pos =
    let s : 1 + (w - 1) ≡ w = omega arith in
    ap (λ (k : ℕ). 2 ^ k) (sym s) ∙ pow-add 2 1 (w - 1)

pub negative : (w most n v : ℕ) → v ≡ n → (n ≡ 0 → ⊥) → most + 1 ≡ 2 ^ w → 2 ^ w ≡ 2 * 2 ^ (w - 1) → n ≤ most / 2 + 1 → Some (most - n + 1) ≡ negated w v
negative w most n v e pos whole half le =
    let fits : n ≤ 2 ^ (w - 1) = omega (arith, pos) in
    let below : 2 ^ w - n < 2 ^ w = omega (arith, pos) in
    let bits : (2 ^ w - n) % 2 ^ w ≡ most - n + 1 = mod-eq_of_lt below ∙ omega arith in
    rw (e, le-leb n (2 ^ (w - 1)) fits, bits) refl
