-- Numbers of a width: which of them are negative.
use Rattle.std.proofs.Common.{◌≡◌, ◌∙◌, ◌<◌, ◌≤◌, ◌+◌, ◌-◌, ◌/◌, ◌%◌, ◌^◌, ℕ, Bool, true, false, not, if◌then◌else◌, nat_eq, nat_le, nat_lt, Some, None, ap, sym, arith}
use Rattle.std.proofs.lemmas.Bool.{ne_eqb}
use Rattle.std.proofs.lemmas.Bool.Decides.{nat_tests}
use Rattle.ir_parse_parts.specs.Literals.{negated}
use Rattle.ir_parse_parts.proofs.Widths.{half_pow}
use Rattle.lto_fault.specs.declared.returned.Returned.TheVariants.{Number, Truth}
use Rattle.run_program.specs.Said.{number_said}

-- ---- tests

le_no : (m n : ℕ) → n < m → nat_le m n ≡ false
le_no m n h = grind (arith, nat_tests)

lt_yes : (m n : ℕ) → m < n → nat_lt m n ≡ true
lt_yes m n h = grind (arith, nat_tests)

lt_no : (m n : ℕ) → n ≤ m → nat_lt m n ≡ false
lt_no m n h = grind (arith, nat_tests)

-- ---- literals

pub too_great : (w most n : ℕ) → 0 < w → most + 1 ≡ 2 ^ w → most / 2 + 1 < n → None ≡ negated w n
too_great w most n pos whole past =
    let half = half_pow w pos in
    let over : 2 ^ (w - 1) < n = omega arith in
    sym (ap (λ (b : Bool). if b then Some ((2 ^ w - n) % 2 ^ w) else None) (le_no n (2 ^ (w - 1)) over))

-- ---- what is said

module _ (w most bits : ℕ) (other : w ≡ 1 → ⊥) (pos : 0 < w) (whole : most + 1 ≡ 2 ^ w) where
  said_by : (b : Bool) → nat_lt bits (2 ^ (w - 1)) ≡ b → number_said w bits ≡ (if b then Number false bits else Number true (2 ^ w - bits))
  said_by b e =
      ap (λ (c : Bool). if c then Truth (not (nat_eq bits 0)) else if nat_lt bits (2 ^ (w - 1)) then Number false bits else Number true (2 ^ w - bits)) (ne_eqb w 1 other)
      ∙ ap (λ (c : Bool). if c then Number false bits else Number true (2 ^ w - bits)) e

  pub positive_said : bits ≤ most / 2 → Number false bits ≡ number_said w bits
  positive_said le =
      let half = half_pow w pos in
      let below : bits < 2 ^ (w - 1) = omega arith in
      sym (said_by true (lt_yes bits (2 ^ (w - 1)) below))

  pub negative_said : most / 2 < bits → (magnitude : ℕ) → magnitude ≡ most - bits + 1 → bits < 2 ^ w → Number true magnitude ≡ number_said w bits
  negative_said past magnitude is within =
      let half = half_pow w pos in
      let over : 2 ^ (w - 1) ≤ bits = omega arith in
      let left : magnitude ≡ 2 ^ w - bits = omega arith in
      ap (λ (m : ℕ). Number true m) left ∙ sym (said_by false (lt_no bits (2 ^ (w - 1)) over))
