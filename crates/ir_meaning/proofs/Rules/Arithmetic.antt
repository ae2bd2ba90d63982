-- Rows of the rule table on numbers of w bits.
use Rattle.std.proofs.Common.{◌≡◌, ℕ, zero, suc, ◌+◌, ◌-◌, ◌*◌, ◌/◌, ◌%◌, ◌^◌, ◌<◌, ℤ, Bool, true, false, nat_lt, if◌then◌else◌, inl, inr, refl, sym, ap, ◌∙◌, arith, mod-eq_of_lt, add-zero}
use Rattle.std.specs.Prelude.{not, pos, negsuc, neg_ℤ, ◌-ℤ◌, int_div, int_rem, int_lt, int_le, nat_le}
use Rattle.std.proofs.Math.Nat.{add-mod_right, mod_self, mod-one}
use Rattle.std.specs.Int.Bits.{and_self, or_self, xor_self, and_zero_r, or_zero_r, xor_zero_r}
use Rattle.std.proofs.lemmas.Bool.{eq-eqb, ltb-true, le-leb, lt-ltb}
use Rattle.std.proofs.lemmas.Nat.{and_mask}
use Rattle.ir_tree.specs.declared.instr.BinaryOp.TheVariants.{Add, And, Ashr, Lshr, Mul, Or, Sdiv, Shl, Srem, Sub, Udiv, Urem, Xor}
use Rattle.ir_tree.specs.declared.instr.Flags.{Flags}
use Rattle.ir_tree.specs.declared.instr.Predicate.{Predicate}
use Rattle.ir_tree.specs.declared.instr.Predicate.TheVariants.{Eq, Ne, Sge, Sgt, Sle, Slt, Uge, Ugt, Ule, Ult}
use Rattle.ir_meaning.specs.Operate.{number_or_poison}
use Rattle.lto_bits.specs.Operation.{allowed, arithmetic as word_arithmetic}
use Rattle.lto_bits.specs.Word.{signed, wrapped}
use Rattle.ir_meaning.specs.Arithmetic.{arithmetic, compare}
use Rattle.lto_bits.specs.Comparison.{compared as word_compared}
use Rattle.ir_meaning.specs.declared.value.Value.TheVariants.{Number}
use Rattle.ir_meaning.specs.Facts.{Stands}
use Rattle.ir_meaning.specs.Table.{is_reflexive}

pub allowed_stands : (c : Bool) (n a : ℕ) → a ≡ n → Stands (Number a) (number_or_poison (allowed c n))
allowed_stands true n a e = inr (ap (λ (i : ℕ). Number i) e)
allowed_stands false n a e = inl refl

module _ (f : Flags) (w : ℕ) where
  pub add_zero_right : (a : ℕ) → a < 2 ^ w → Stands (Number a) (number_or_poison (arithmetic Add f w a 0))
  unfolding word_arithmetic
  add_zero_right a lt = allowed_stands _ ((a + 0) % 2 ^ w) a (sym (ap (λ (i : ℕ). i % 2 ^ w) (add-zero a) ∙ mod-eq_of_lt lt))

  pub add_zero_left : (a : ℕ) → a < 2 ^ w → Stands (Number a) (number_or_poison (arithmetic Add f w 0 a))
  unfolding word_arithmetic
  add_zero_left a lt = let e : 0 + a ≡ a = omega arith in allowed_stands _ ((0 + a) % 2 ^ w) a (sym (ap (λ (i : ℕ). i % 2 ^ w) e ∙ mod-eq_of_lt lt))

  pub sub_zero : (a : ℕ) → a < 2 ^ w → Stands (Number a) (number_or_poison (arithmetic Sub f w a 0))
  unfolding word_arithmetic
  sub_zero a lt = let e : a + 2 ^ w - 0 ≡ a + 2 ^ w = omega arith in allowed_stands _ ((a + 2 ^ w - 0) % 2 ^ w) a (sym (ap (λ (i : ℕ). i % 2 ^ w) e ∙ add-mod_right a (2 ^ w) ∙ mod-eq_of_lt lt))

  pub mul_one_right : (a : ℕ) → a < 2 ^ w → Stands (Number a) (number_or_poison (arithmetic Mul f w a 1))
  unfolding word_arithmetic
  mul_one_right a lt = let e : a * 1 ≡ a = omega arith in allowed_stands _ (a * 1 % 2 ^ w) a (sym (ap (λ (i : ℕ). i % 2 ^ w) e ∙ mod-eq_of_lt lt))

  pub mul_one_left : (a : ℕ) → a < 2 ^ w → Stands (Number a) (number_or_poison (arithmetic Mul f w 1 a))
  unfolding word_arithmetic
  mul_one_left a lt = let e : 1 * a ≡ a = omega arith in allowed_stands _ (1 * a % 2 ^ w) a (sym (ap (λ (i : ℕ). i % 2 ^ w) e ∙ mod-eq_of_lt lt))

  pub shl_zero : (a : ℕ) → a < 2 ^ w → Stands (Number a) (number_or_poison (arithmetic Shl f w a 0))
  unfolding word_arithmetic
  shl_zero a lt = let e : a * 2 ^ 0 ≡ a = omega arith in allowed_stands _ (a * 2 ^ 0 % 2 ^ w) a (sym (ap (λ (i : ℕ). i % 2 ^ w) e ∙ mod-eq_of_lt lt))

  pub lshr_zero : (a : ℕ) → a < 2 ^ w → Stands (Number a) (number_or_poison (arithmetic Lshr f w a 0))
  unfolding word_arithmetic
  lshr_zero a lt = let e : a / 2 ^ 0 ≡ a = omega arith in allowed_stands _ (a / 2 ^ 0) a (sym e)

  pub ashr_zero : (a : ℕ) → a < 2 ^ w → Stands (Number a) (number_or_poison (arithmetic Ashr f w a 0))
  unfolding word_arithmetic
  ashr_zero a lt = allowed_stands _ (if nat_lt a (2 ^ (w - 1)) then a / 2 ^ 0 else 2 ^ w - 1 - (2 ^ w - 1 - a) / 2 ^ 0) a (by (nat_lt a (2 ^ (w - 1))))
    where
      by : (t : Bool) → a ≡ (if t then a / 2 ^ 0 else 2 ^ w - 1 - (2 ^ w - 1 - a) / 2 ^ 0)
      by true = omega arith
      by false = omega (arith, lt)

  pub and_ones : (a : ℕ) → a < 2 ^ w → Stands (Number a) (number_or_poison (arithmetic And f w a (2 ^ w - 1)))
  unfolding word_arithmetic
  and_ones a lt = inr (ap (λ (i : ℕ). Number i) (sym (and_mask a w ∙ mod-eq_of_lt lt)))

  pub or_zero : (a : ℕ) → a < 2 ^ w → Stands (Number a) (number_or_poison (arithmetic Or f w a 0))
  unfolding word_arithmetic
  or_zero a lt = inr (ap (λ (i : ℕ). Number i) (sym (or_zero_r a)))

  pub xor_zero : (a : ℕ) → a < 2 ^ w → Stands (Number a) (number_or_poison (arithmetic Xor f w a 0))
  unfolding word_arithmetic
  xor_zero a lt = inr (ap (λ (i : ℕ). Number i) (sym (xor_zero_r a)))

  pub udiv_one : (a : ℕ) → a < 2 ^ w → Stands (Number a) (number_or_poison (arithmetic Udiv f w a 1))
  unfolding word_arithmetic
  udiv_one a lt = let e : a / 1 ≡ a = omega arith in allowed_stands _ (a / 1) a (sym e)

  pub and_same : (a : ℕ) → Stands (Number a) (number_or_poison (arithmetic And f w a a))
  unfolding word_arithmetic
  and_same a = inr (ap (λ (i : ℕ). Number i) (sym (and_self a)))

  pub or_same : (a : ℕ) → Stands (Number a) (number_or_poison (arithmetic Or f w a a))
  unfolding word_arithmetic
  or_same a = inr (ap (λ (i : ℕ). Number i) (sym (or_self a)))

  zero_mod : (m : ℕ) → 0 % m ≡ 0
  zero_mod m = omega arith

  pub mul_zero_right : (a : ℕ) → Stands (Number 0) (number_or_poison (arithmetic Mul f w a 0))
  unfolding word_arithmetic
  mul_zero_right a = let e : a * 0 ≡ 0 = omega arith in allowed_stands _ (a * 0 % 2 ^ w) 0 (sym (ap (λ (i : ℕ). i % 2 ^ w) e ∙ zero_mod (2 ^ w)))

  pub mul_zero_left : (a : ℕ) → Stands (Number 0) (number_or_poison (arithmetic Mul f w 0 a))
  unfolding word_arithmetic
  mul_zero_left a = let e : 0 * a ≡ 0 = omega arith in allowed_stands _ (0 * a % 2 ^ w) 0 (sym (ap (λ (i : ℕ). i % 2 ^ w) e ∙ zero_mod (2 ^ w)))

  pub and_zero : (a : ℕ) → Stands (Number 0) (number_or_poison (arithmetic And f w a 0))
  unfolding word_arithmetic
  and_zero a = inr (ap (λ (i : ℕ). Number i) (sym (and_zero_r a)))

  pub sub_same : (a : ℕ) → Stands (Number 0) (number_or_poison (arithmetic Sub f w a a))
  unfolding word_arithmetic
  sub_same a = let e : a + 2 ^ w - a ≡ 2 ^ w = omega arith in allowed_stands _ ((a + 2 ^ w - a) % 2 ^ w) 0 (sym (ap (λ (i : ℕ). i % 2 ^ w) e ∙ mod_self (2 ^ w)))

  pub xor_same : (a : ℕ) → Stands (Number 0) (number_or_poison (arithmetic Xor f w a a))
  unfolding word_arithmetic
  xor_same a = inr (ap (λ (i : ℕ). Number i) (sym (xor_self a)))

  pub urem_one : (a : ℕ) → Stands (Number 0) (number_or_poison (arithmetic Urem f w a 1))
  unfolding word_arithmetic
  urem_one a = inr (ap (λ (i : ℕ). Number i) (sym (mod-one a)))

-- ---- signed division by 1

div_one : (z : ℤ) → int_div z (pos 1) ≡ z
div_one (pos a) = let e : a / 1 ≡ a = omega arith in ap pos e
div_one (negsuc a) = let e : suc a / 1 ≡ suc a = omega arith in ap (λ n. neg_ℤ (pos n)) e

rem_one : (z : ℤ) → int_rem z (pos 1) ≡ pos 0
rem_one (pos a) = ap pos (mod-one a)
rem_one (negsuc a) = ap (λ n. neg_ℤ (pos n)) (mod-one (suc a))

-- where there are two bits or more, 1 is positive
signed_one : (w : ℕ) → 1 < 2 ^ (w - 1) → signed w 1 ≡ pos 1
signed_one w lt = ap (λ (t : Bool). if t then pos 1 else pos 1 -ℤ pos (2 ^ w)) (lt-ltb 1 (2 ^ (w - 1)) lt)

below : (m n : ℕ) → n < m → pos n -ℤ pos m ≡ negsuc (m - n - 1)
below zero n lt = absurd (omega (arith, lt))
below (suc k) n lt =
    let e : suc k - suc n ≡ suc k - n - 1 = omega arith in
    ap (λ (t : Bool). if t then negsuc (suc k - suc n) else pos (n - suc k)) (lt-ltb n (suc k) lt) ∙ ap negsuc e

wrapped_signed : (w a : ℕ) → a < 2 ^ w → wrapped w (signed w a) ≡ a
wrapped_signed w a lt = by (nat_lt a (2 ^ (w - 1)))
  where
    by : (t : Bool) → wrapped w (if t then pos a else pos a -ℤ pos (2 ^ w)) ≡ a
    by true = mod-eq_of_lt lt
    by false =
        let small : 2 ^ w - a - 1 < 2 ^ w = omega (arith, lt) in
        let back : 2 ^ w - 1 - (2 ^ w - a - 1) ≡ a = omega (arith, lt) in
        ap (wrapped w) (below (2 ^ w) a lt) ∙ ap (λ n. 2 ^ w - 1 - n) (mod-eq_of_lt small) ∙ back

-- ---- comparisons of a number with itself

nat_lt_same : (a : ℕ) → nat_lt a a ≡ false
nat_lt_same a = by (nat_lt a a) refl
  where
    by : (t : Bool) → nat_lt a a ≡ t → t ≡ false
    by true e = let lt = ltb-true a a e in absurd (omega (arith, lt))
    by false e = refl

nat_le_same : (a : ℕ) → nat_le a a ≡ true
nat_le_same a = le-leb a a (omega arith)

int_lt_same : (z : ℤ) → int_lt z z ≡ false
int_lt_same (pos n) = nat_lt_same n
int_lt_same (negsuc n) = nat_lt_same n

int_le_same : (z : ℤ) → int_le z z ≡ true
int_le_same (pos n) = nat_le_same n
int_le_same (negsuc n) = nat_le_same n

pub compare_same : (p : Predicate) (w a : ℕ) → compare p w a a ≡ is_reflexive p
unfolding word_compared
compare_same Eq w a = eq-eqb a a refl
compare_same Ne w a = ap not (eq-eqb a a refl)
compare_same Ugt w a = nat_lt_same a
compare_same Uge w a = nat_le_same a
compare_same Ult w a = nat_lt_same a
compare_same Ule w a = nat_le_same a
compare_same Sgt w a = int_lt_same (signed w a)
compare_same Sge w a = int_le_same (signed w a)
compare_same Slt w a = int_lt_same (signed w a)
compare_same Sle w a = int_le_same (signed w a)

pub order_same : (strict : Bool) (a : ℕ) → (if strict then nat_lt a a else nat_le a a) ≡ not strict
order_same true a = nat_lt_same a
order_same false a = nat_le_same a

module _ (f : Flags) (w : ℕ) (wide : 1 < 2 ^ (w - 1)) where
  pub sdiv_one : (a : ℕ) → a < 2 ^ w → Stands (Number a) (number_or_poison (arithmetic Sdiv f w a 1))
  unfolding word_arithmetic
  sdiv_one a lt =
      let e : wrapped w (int_div (signed w a) (signed w 1)) ≡ a = ap (λ z. wrapped w (int_div (signed w a) z)) (signed_one w wide) ∙ ap (wrapped w) (div_one (signed w a)) ∙ wrapped_signed w a lt in
      allowed_stands _ _ a (sym e)

  pub srem_one : (a : ℕ) → Stands (Number 0) (number_or_poison (arithmetic Srem f w a 1))
  unfolding word_arithmetic
  srem_one a =
      let e : int_rem (signed w a) (signed w 1) ≡ pos 0 = ap (int_rem (signed w a)) (signed_one w wide) ∙ rem_one (signed w a) in
      let z : 0 % 2 ^ w ≡ 0 = omega arith in
      inr (ap (λ (i : ℕ). Number i) (sym (ap (wrapped w) e ∙ z)))
