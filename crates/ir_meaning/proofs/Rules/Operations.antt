-- The rows of the rule table on binary operations.
use Rattle.std.proofs.Common.{◌≡◌, ℕ, zero, suc, ◌-◌, ◌*◌, ◌^◌, ◌<◌, Bool, true, false, ◌&&◌, ◌||◌, ◌==◌, nat_lt, if◌then◌else◌, Option, Some, None, ◌⊎◌, inl, inr, refl, sym, ap, ◌∙◌, subst, arith, pow_pos, pow-suc}
use Rattle.std.specs.Prelude.{not}
use Rattle.std.proofs.lemmas.Bool.{eqb-true, and_parts, or_cases, ltb-true}
use Rattle.ir_tree.specs.declared.instr.BinaryOp.{BinaryOp}
use Rattle.ir_tree.specs.declared.instr.BinaryOp.TheVariants.{Add, And, Ashr, Lshr, Mul, Or, Sdiv, Shl, Srem, Sub, Udiv, Urem, Xor}
use Rattle.ir_tree.specs.declared.instr.Flags.{Flags}
use Rattle.ir_tree.specs.declared.operand.Operand.{Operand}
use Rattle.ir_tree.specs.declared.operand.Operand.TheVariants.{Local, Null, Number as Constant, Poison as PoisonOf, Symbol as Named}
use Rattle.ir_tree.specs.declared.operand.Reg.TheVariants.{Int}
use Rattle.ir_tree.specs.declared.operand.Symbol.{Symbol}
use Rattle.ir_meaning.specs.Execute.{gives}
use Rattle.ir_meaning.specs.Frame.{Locals, Signature, look_up, value_of}
use Rattle.ir_meaning.specs.Memory.{Memory}
use Rattle.ir_meaning.specs.Operate.{Answer, Is, Never, Unwritten, number_or_poison, bits_of, plain_bits, division_bits, binary_bits, binary}
use Rattle.ir_tree.specs.Symbols.{symbol_eq}
use Rattle.ir_meaning.specs.Arithmetic.{arithmetic, breaks, may_break, division_cause, is_division}
use Rattle.lto_bits.specs.Operation.{arithmetic as word_arithmetic}
use Rattle.ir_tree.specs.declared.cause.Cause.{Cause}
use Rattle.ir_meaning.specs.declared.value.Value.{Value}
use Rattle.ir_meaning.specs.declared.value.Value.TheVariants.{Number, Pointer, Poison}
use Rattle.ir_meaning.specs.Facts.{Stands, GivesFor}
use Rattle.ir_meaning.specs.Table.{first, when, is_poison, is_number, number_of, same, constant_answer, folded_or, poisoned, unchanged, zeroed, binary_rule}
use Rattle.ir_tree.proofs.Symbols.{symbol_true}
use Rattle.ir_meaning.proofs.Rules.Arithmetic.{allowed_stands, add_zero_right, add_zero_left, sub_zero, mul_one_right, mul_one_left, shl_zero, lshr_zero, ashr_zero, and_ones, or_zero, xor_zero, udiv_one, and_same, or_same, mul_zero_right, mul_zero_left, and_zero, sub_same, xor_same, urem_one, sdiv_one, srem_one}

-- ---- choices among rows

pub first_cases : (a b : Option Operand) (v : Operand) → first a b ≡ Some v → (a ≡ Some v) ⊎ (b ≡ Some v)
first_cases None b v e = inr e
first_cases (Some u) b v e = inl e

pub when_is : (b : Bool) (u v : Operand) → when b u ≡ Some v → (b ≡ true) × (u ≡ v)
when_is true u v e = (refl, cc e)
when_is false u v e = absurd (cc e)

-- ---- what operands are

pub number_is : (sig : Signature) (ls : Locals) (n : ℕ) (o : Operand) → is_number n o ≡ true → value_of sig ls o ≡ Number n
number_is sig ls n (Constant w k) e = ap (λ (i : ℕ). Number i) (eqb-true k n e)
number_is sig ls n (Local x) e = absurd (cc e)
number_is sig ls n Null e = absurd (cc e)
number_is sig ls n (PoisonOf reg) e = absurd (cc e)
number_is sig ls n (Named s i) e = absurd (cc e)

pub poison_is : (sig : Signature) (ls : Locals) (o : Operand) → is_poison o ≡ true → value_of sig ls o ≡ Poison
poison_is sig ls (PoisonOf reg) e = refl
poison_is sig ls (Constant w k) e = absurd (cc e)
poison_is sig ls (Local x) e = absurd (cc e)
poison_is sig ls Null e = absurd (cc e)
poison_is sig ls (Named s i) e = absurd (cc e)

pub same_is : (sig : Signature) (ls : Locals) (a b : Operand) → same a b ≡ true → value_of sig ls a ≡ value_of sig ls b
same_is sig ls (Local x) (Local y) e = ap (look_up ls) (eqb-true x y e)
same_is sig ls (Constant v a) (Constant w b) e = ap (λ (i : ℕ). Number i) (eqb-true a b (and_parts (v == w) (a == b) e).1)
same_is sig ls Null Null e = refl
same_is sig ls (PoisonOf r) (PoisonOf s) e = refl
same_is sig ls (Named s i) (Named t j) e =
    let parts = and_parts (symbol_eq s t) (i == j) e in
    ap (λ (x : Symbol). value_of sig ls (Named x i)) (symbol_true s t parts.0) ∙ ap (λ (k : ℕ). value_of sig ls (Named t k)) (eqb-true i j parts.1)
same_is sig ls (Local x) (Constant w b) e = absurd (cc e)
same_is sig ls (Local x) Null e = absurd (cc e)
same_is sig ls (Local x) (PoisonOf reg) e = absurd (cc e)
same_is sig ls (Local x) (Named t j) e = absurd (cc e)
same_is sig ls (Constant v a) (Local y) e = absurd (cc e)
same_is sig ls (Constant v a) Null e = absurd (cc e)
same_is sig ls (Constant v a) (PoisonOf reg) e = absurd (cc e)
same_is sig ls (Constant v a) (Named t j) e = absurd (cc e)
same_is sig ls Null (Local y) e = absurd (cc e)
same_is sig ls Null (Constant w b) e = absurd (cc e)
same_is sig ls Null (PoisonOf reg) e = absurd (cc e)
same_is sig ls Null (Named t j) e = absurd (cc e)
same_is sig ls (Named s i) (Local y) e = absurd (cc e)
same_is sig ls (Named s i) (Constant w b) e = absurd (cc e)
same_is sig ls (Named s i) Null e = absurd (cc e)
same_is sig ls (Named s i) (PoisonOf reg) e = absurd (cc e)
same_is sig ls (PoisonOf reg) (Local y) e = absurd (cc e)
same_is sig ls (PoisonOf reg) (Constant w b) e = absurd (cc e)
same_is sig ls (PoisonOf reg) Null e = absurd (cc e)
same_is sig ls (PoisonOf reg) (Named t j) e = absurd (cc e)

-- ---- bits

-- what the number that an operand is says of its value
record IsBits (w : ℕ) (x : Value) (b : Option ℕ) : Type 0 where
  number : ℕ
  bits : b ≡ Some number
  is : x ≡ Number number
  small : number < 2 ^ w

abbrev BitsOf : ℕ → Value → Option ℕ → Type 0
BitsOf w x b = (b ≡ None) ⊎ IsBits w x b

bits_are : (w : ℕ) (x : Value) → BitsOf w x (bits_of w x)
bits_are w Poison = inl refl
bits_are w (Pointer x i) = inl refl
bits_are w (Number n) = by (nat_lt n (2 ^ w)) refl
  where
    by : (t : Bool) → nat_lt n (2 ^ w) ≡ t → BitsOf w (Number n) (if t then Some n else None)
    by true e = inr (record { number = n; bits = refl; is = refl; small = ltb-true n (2 ^ w) e })
    by false e = inl refl

abbrev IsOrNone : ℕ → Option ℕ → Type 0
IsOrNone c b = (b ≡ None) ⊎ (b ≡ Some c)

constant_bits : (w c : ℕ) (x : Value) → x ≡ Number c → IsOrNone c (bits_of w x)
constant_bits w c x e = subst (λ (y : Value). IsOrNone c (bits_of w y)) (sym e) (by (nat_lt c (2 ^ w)))
  where
    by : (t : Bool) → IsOrNone c (if t then Some c else None)
    by true = inr refl
    by false = inl refl

pub number_bits : (sig : Signature) (ls : Locals) (w a : ℕ) (o : Operand) → number_of w o ≡ Some a → bits_of w (value_of sig ls o) ≡ Some a
number_bits sig ls w a (Constant v k) e = e
number_bits sig ls w a (Local x) e = absurd (cc e)
number_bits sig ls w a Null e = absurd (cc e)
number_bits sig ls w a (PoisonOf reg) e = absurd (cc e)
number_bits sig ls w a (Named s i) e = absurd (cc e)

-- ---- answers

abbrev pub StandsForAnswer : Value → Answer → Type 0
StandsForAnswer v (Is x) = Stands v x
StandsForAnswer v (Never cause) = Unit {0}
StandsForAnswer v Unwritten = Unit {0}

pub gives_for : (m : Memory) (place : ℕ) (v : Value) (a : Answer) → StandsForAnswer v a → GivesFor m place v (gives m place a)
gives_for m place v (Is x) h = (h, refl, refl, refl)
gives_for m place v (Never cause) h = tt
gives_for m place v Unwritten h = tt

if_never : (t : Bool) (cause : Cause) (a : Answer) (v : Value) → StandsForAnswer v a → StandsForAnswer v (if t then Never cause else a)
if_never true cause a v h = tt
if_never false cause a v h = h

-- ---- rows of binary operations, on the numbers that the operands are

module _ (f : Flags) (w : ℕ) where
  -- a constant on the right leaves the left operand
  leaves_left : (op : BinaryOp) (c : ℕ) → ((a : ℕ) → a < 2 ^ w → Stands (Number a) (number_or_poison (arithmetic op f w a c))) → (x : Value) (b cb : Option ℕ) → BitsOf w x b → IsOrNone c cb → Stands x (plain_bits op f w b cb)
  leaves_left op c h x b cb (inl e) k = inl (ap (λ (o : Option ℕ). plain_bits op f w o cb) e)
  leaves_left op c h x b cb (inr i) (inl k) = inl (ap (λ (o : Option ℕ). plain_bits op f w o cb) i.bits ∙ ap (λ (o : Option ℕ). plain_bits op f w (Some i.number) o) k)
  leaves_left op c h x b cb (inr i) (inr k) =
      subst (λ (o : Option ℕ). Stands x (plain_bits op f w o cb)) (sym i.bits) (subst (λ (o : Option ℕ). Stands x (plain_bits op f w (Some i.number) o)) (sym k) (subst (λ (y : Value). Stands y (plain_bits op f w (Some i.number) (Some c))) (sym i.is) (h i.number i.small)))

  -- a constant on the left leaves the right operand
  leaves_right : (op : BinaryOp) (c : ℕ) → ((a : ℕ) → a < 2 ^ w → Stands (Number a) (number_or_poison (arithmetic op f w c a))) → (x : Value) (cb b : Option ℕ) → IsOrNone c cb → BitsOf w x b → Stands x (plain_bits op f w cb b)
  leaves_right op c h x cb b (inl k) i = inl (ap (λ (o : Option ℕ). plain_bits op f w o b) k)
  leaves_right op c h x cb b (inr k) (inl e) = inl (ap (λ (o : Option ℕ). plain_bits op f w o b) k ∙ ap (λ (o : Option ℕ). plain_bits op f w (Some c) o) e)
  leaves_right op c h x cb b (inr k) (inr i) =
      subst (λ (o : Option ℕ). Stands x (plain_bits op f w o b)) (sym k) (subst (λ (o : Option ℕ). Stands x (plain_bits op f w (Some c) o)) (sym i.bits) (subst (λ (y : Value). Stands y (plain_bits op f w (Some c) (Some i.number))) (sym i.is) (h i.number i.small)))

  -- one operand twice leaves it
  leaves_both : (op : BinaryOp) → ((a : ℕ) → Stands (Number a) (number_or_poison (arithmetic op f w a a))) → (x : Value) (b : Option ℕ) → BitsOf w x b → Stands x (plain_bits op f w b b)
  leaves_both op h x b (inl e) = inl (ap (λ (o : Option ℕ). plain_bits op f w o o) e)
  leaves_both op h x b (inr i) =
      subst (λ (o : Option ℕ). Stands x (plain_bits op f w o o)) (sym i.bits) (subst (λ (y : Value). Stands y (plain_bits op f w (Some i.number) (Some i.number))) (sym i.is) (h i.number))

  -- zero, whatever the left operand
  zero_by_right : (op : BinaryOp) (c : ℕ) → ((a : ℕ) → Stands (Number 0) (number_or_poison (arithmetic op f w a c))) → (b cb : Option ℕ) → IsOrNone c cb → Stands (Number 0) (plain_bits op f w b cb)
  zero_by_right op c h None cb k = inl refl
  zero_by_right op c h (Some a) cb (inl k) = inl (ap (λ (o : Option ℕ). plain_bits op f w (Some a) o) k)
  zero_by_right op c h (Some a) cb (inr k) = subst (λ (o : Option ℕ). Stands (Number 0) (plain_bits op f w (Some a) o)) (sym k) (h a)

  zero_by_left : (op : BinaryOp) (c : ℕ) → ((a : ℕ) → Stands (Number 0) (number_or_poison (arithmetic op f w c a))) → (cb b : Option ℕ) → IsOrNone c cb → Stands (Number 0) (plain_bits op f w cb b)
  zero_by_left op c h cb b (inl k) = inl (ap (λ (o : Option ℕ). plain_bits op f w o b) k)
  zero_by_left op c h cb None (inr k) = inl (ap (λ (o : Option ℕ). plain_bits op f w o None) k)
  zero_by_left op c h cb (Some a) (inr k) = subst (λ (o : Option ℕ). Stands (Number 0) (plain_bits op f w o (Some a))) (sym k) (h a)

  zero_by_both : (op : BinaryOp) → ((a : ℕ) → Stands (Number 0) (number_or_poison (arithmetic op f w a a))) → (b : Option ℕ) → Stands (Number 0) (plain_bits op f w b b)
  zero_by_both op h None = inl refl
  zero_by_both op h (Some a) = h a

  -- a division by a constant leaves the dividend
  division_leaves : (op : BinaryOp) (c : ℕ) → ((a : ℕ) → a < 2 ^ w → (breaks op w a c ≡ true) ⊎ Stands (Number a) (number_or_poison (arithmetic op f w a c))) → (x : Value) (b cb : Option ℕ) → BitsOf w x b → IsOrNone c cb → StandsForAnswer x (division_bits op f w b cb)
  division_leaves op c h x b cb i (inl k) = subst (λ (o : Option ℕ). StandsForAnswer x (division_bits op f w b o)) (sym k) (by b)
    where
      by : (d : Option ℕ) → StandsForAnswer x (division_bits op f w d None)
      by None = tt
      by (Some a) = tt
  division_leaves op c h x b cb (inl e) (inr k) =
      subst (λ (o : Option ℕ). StandsForAnswer x (division_bits op f w b o)) (sym k) (subst (λ (o : Option ℕ). StandsForAnswer x (division_bits op f w o (Some c))) (sym e) (if_never (may_break op w c) (division_cause c) (Is Poison) x (inl refl)))
  division_leaves op c h x b cb (inr i) (inr k) =
      subst (λ (o : Option ℕ). StandsForAnswer x (division_bits op f w b o)) (sym k) (subst (λ (o : Option ℕ). StandsForAnswer x (division_bits op f w o (Some c))) (sym i.bits) (subst (λ (y : Value). StandsForAnswer y (division_bits op f w (Some i.number) (Some c))) (sym i.is) (by (h i.number i.small))))
    where
      by : (breaks op w i.number c ≡ true) ⊎ Stands (Number i.number) (number_or_poison (arithmetic op f w i.number c)) → StandsForAnswer (Number i.number) (division_bits op f w (Some i.number) (Some c))
      by (inl e) = subst (λ (t : Bool). StandsForAnswer (Number i.number) (if t then Never (division_cause c) else Is (number_or_poison (arithmetic op f w i.number c)))) (sym e) tt
      by (inr s) = if_never (breaks op w i.number c) (division_cause c) (Is (number_or_poison (arithmetic op f w i.number c))) (Number i.number) s

  -- a remainder by a constant is zero
  remainder_zero : (op : BinaryOp) (c : ℕ) → ((a : ℕ) → a < 2 ^ w → (breaks op w a c ≡ true) ⊎ Stands (Number 0) (number_or_poison (arithmetic op f w a c))) → (x : Value) (b cb : Option ℕ) → BitsOf w x b → IsOrNone c cb → StandsForAnswer (Number 0) (division_bits op f w b cb)
  remainder_zero op c h x b cb i (inl k) = subst (λ (o : Option ℕ). StandsForAnswer (Number 0) (division_bits op f w b o)) (sym k) (by b)
    where
      by : (d : Option ℕ) → StandsForAnswer (Number 0) (division_bits op f w d None)
      by None = tt
      by (Some a) = tt
  remainder_zero op c h x b cb (inl e) (inr k) =
      subst (λ (o : Option ℕ). StandsForAnswer (Number 0) (division_bits op f w b o)) (sym k) (subst (λ (o : Option ℕ). StandsForAnswer (Number 0) (division_bits op f w o (Some c))) (sym e) (if_never (may_break op w c) (division_cause c) (Is Poison) (Number 0) (inl refl)))
  remainder_zero op c h x b cb (inr i) (inr k) =
      subst (λ (o : Option ℕ). StandsForAnswer (Number 0) (division_bits op f w b o)) (sym k) (subst (λ (o : Option ℕ). StandsForAnswer (Number 0) (division_bits op f w o (Some c))) (sym i.bits) (by (h i.number i.small)))
    where
      by : (breaks op w i.number c ≡ true) ⊎ Stands (Number 0) (number_or_poison (arithmetic op f w i.number c)) → StandsForAnswer (Number 0) (division_bits op f w (Some i.number) (Some c))
      by (inl e) = subst (λ (t : Bool). StandsForAnswer (Number 0) (if t then Never (division_cause c) else Is (number_or_poison (arithmetic op f w i.number c)))) (sym e) tt
      by (inr s) = if_never (breaks op w i.number c) (division_cause c) (Is (number_or_poison (arithmetic op f w i.number c))) (Number 0) s

-- ---- signed division by 1, which is -1 where there is one bit

wide : (k : ℕ) → 1 < 2 ^ (suc (suc k) - 1)
wide k =
    let e : suc (suc k) - 1 ≡ suc k = omega arith in
    let p : 2 ^ (suc (suc k) - 1) ≡ 2 ^ k * 2 = ap (λ n. 2 ^ n) e ∙ pow-suc 2 k in
    omega (arith, p, pow_pos k)

quotient_by_one : (f : Flags) (w a : ℕ) → a < 2 ^ w → (breaks Sdiv w a 1 ≡ true) ⊎ Stands (Number a) (number_or_poison (arithmetic Sdiv f w a 1))
unfolding word_arithmetic
quotient_by_one f zero zero lt = inr (allowed_stands _ 0 0 refl)
quotient_by_one f zero (suc a) lt = absurd (omega (arith, lt))
quotient_by_one f (suc zero) zero lt = inr (allowed_stands _ 0 0 refl)
quotient_by_one f (suc zero) (suc zero) lt = inl refl
quotient_by_one f (suc zero) (suc (suc a)) lt = absurd (omega (arith, lt))
quotient_by_one f (suc (suc k)) a lt = inr (sdiv_one f (suc (suc k)) (wide k) a lt)

remainder_by_one : (f : Flags) (w a : ℕ) → a < 2 ^ w → (breaks Srem w a 1 ≡ true) ⊎ Stands (Number 0) (number_or_poison (arithmetic Srem f w a 1))
unfolding word_arithmetic
remainder_by_one f zero zero lt = inr (inr refl)
remainder_by_one f zero (suc a) lt = absurd (omega (arith, lt))
remainder_by_one f (suc zero) zero lt = inr (inr refl)
remainder_by_one f (suc zero) (suc zero) lt = inl refl
remainder_by_one f (suc zero) (suc (suc a)) lt = absurd (omega (arith, lt))
remainder_by_one f (suc (suc k)) a lt = inr (srem_one f (suc (suc k)) (wide k) a)

-- ---- binary operations

constant_stands : (sig : Signature) (ls : Locals) (w : ℕ) (v : Operand) (a : Answer) → constant_answer w a ≡ Some v → StandsForAnswer (value_of sig ls v) a
constant_stands sig ls w v (Is (Number n)) e = let is : Constant w n ≡ v = cc e in inr (ap (value_of sig ls) (sym is))
constant_stands sig ls w v (Is Poison) e = inl refl
constant_stands sig ls w v (Is (Pointer x i)) e = absurd (cc e)
constant_stands sig ls w v (Never cause) e = tt
constant_stands sig ls w v Unwritten e = tt

module _ (sig : Signature) (ls : Locals) (f : Flags) (w : ℕ) (l r : Operand) where
  abbrev pub x : Value
  x = value_of sig ls l

  abbrev pub y : Value
  y = value_of sig ls r

  abbrev pub RowStands : BinaryOp → Operand → Type 0
  RowStands op v = StandsForAnswer (value_of sig ls v) (binary op f w x y)

  -- a row with a test
  by_test : (op : BinaryOp) (b : Bool) (u v : Operand) → (b ≡ true → StandsForAnswer (value_of sig ls u) (binary op f w x y)) → when b u ≡ Some v → RowStands op v
  by_test op b u v h e =
      let p = when_is b u v e in
      subst (λ (o : Operand). StandsForAnswer (value_of sig ls o) (binary op f w x y)) p.1 (h p.0)

  either : (op : BinaryOp) (a b : Option Operand) (v : Operand) → (a ≡ Some v → RowStands op v) → (b ≡ Some v → RowStands op v) → first a b ≡ Some v → RowStands op v
  either op a b v h k e = by (first_cases a b v e)
    where
      by : (a ≡ Some v) ⊎ (b ≡ Some v) → RowStands op v
      by (inl e') = h e'
      by (inr e') = k e'

  left_bits : BitsOf w x (bits_of w x)
  left_bits = bits_are w x

  right_bits : BitsOf w y (bits_of w y)
  right_bits = bits_are w y

  right_is : (c : ℕ) → is_number c r ≡ true → IsOrNone c (bits_of w y)
  right_is c t = constant_bits w c y (number_is sig ls c r t)

  left_is : (c : ℕ) → is_number c l ≡ true → IsOrNone c (bits_of w x)
  left_is c t = constant_bits w c x (number_is sig ls c l t)

  -- the operands' numbers are one
  same_bits : same l r ≡ true → bits_of w x ≡ bits_of w y
  same_bits t = ap (bits_of w) (same_is sig ls l r t)

  unchanged_stands : (op : BinaryOp) (v : Operand) → unchanged op w l r ≡ Some v → RowStands op v
  unchanged_stands Add v e =
      either Add (when (is_number 0 r) l) (when (is_number 0 l) r) v
      (by_test Add (is_number 0 r) l v (λ t. leaves_left f w Add 0 (add_zero_right f w) x _ _ left_bits (right_is 0 t)))
      (by_test Add (is_number 0 l) r v (λ t. leaves_right f w Add 0 (add_zero_left f w) y _ _ (left_is 0 t) right_bits)) e
  unchanged_stands Sub v e = by_test Sub (is_number 0 r) l v (λ t. leaves_left f w Sub 0 (sub_zero f w) x _ _ left_bits (right_is 0 t)) e
  unchanged_stands Mul v e =
      either Mul (when (is_number 1 r) l) (when (is_number 1 l) r) v
      (by_test Mul (is_number 1 r) l v (λ t. leaves_left f w Mul 1 (mul_one_right f w) x _ _ left_bits (right_is 1 t)))
      (by_test Mul (is_number 1 l) r v (λ t. leaves_right f w Mul 1 (mul_one_left f w) y _ _ (left_is 1 t) right_bits)) e
  unchanged_stands Udiv v e = by_test Udiv (is_number 1 r) l v (λ t. division_leaves f w Udiv 1 (λ a lt. inr (udiv_one f w a lt)) x _ _ left_bits (right_is 1 t)) e
  unchanged_stands Sdiv v e = by_test Sdiv (is_number 1 r) l v (λ t. division_leaves f w Sdiv 1 (quotient_by_one f w) x _ _ left_bits (right_is 1 t)) e
  unchanged_stands Shl v e = by_test Shl (is_number 0 r) l v (λ t. leaves_left f w Shl 0 (shl_zero f w) x _ _ left_bits (right_is 0 t)) e
  unchanged_stands Lshr v e = by_test Lshr (is_number 0 r) l v (λ t. leaves_left f w Lshr 0 (lshr_zero f w) x _ _ left_bits (right_is 0 t)) e
  unchanged_stands Ashr v e = by_test Ashr (is_number 0 r) l v (λ t. leaves_left f w Ashr 0 (ashr_zero f w) x _ _ left_bits (right_is 0 t)) e
  unchanged_stands And v e =
      either And (when (is_number (2 ^ w - 1) r) l) (when (same l r) l) v
      (by_test And (is_number (2 ^ w - 1) r) l v (λ t. leaves_left f w And (2 ^ w - 1) (and_ones f w) x _ _ left_bits (right_is (2 ^ w - 1) t)))
      (by_test And (same l r) l v (λ t. subst (λ (b : Option ℕ). Stands x (plain_bits And f w (bits_of w x) b)) (same_bits t) (leaves_both f w And (and_same f w) x _ left_bits))) e
  unchanged_stands Or v e =
      either Or (when (is_number 0 r) l) (when (same l r) l) v
      (by_test Or (is_number 0 r) l v (λ t. leaves_left f w Or 0 (or_zero f w) x _ _ left_bits (right_is 0 t)))
      (by_test Or (same l r) l v (λ t. subst (λ (b : Option ℕ). Stands x (plain_bits Or f w (bits_of w x) b)) (same_bits t) (leaves_both f w Or (or_same f w) x _ left_bits))) e
  unchanged_stands Xor v e = by_test Xor (is_number 0 r) l v (λ t. leaves_left f w Xor 0 (xor_zero f w) x _ _ left_bits (right_is 0 t)) e
  unchanged_stands Urem v e = absurd (cc e)
  unchanged_stands Srem v e = absurd (cc e)

  zeroed_stands : (op : BinaryOp) (v : Operand) → zeroed op w l r ≡ Some v → RowStands op v
  zeroed_stands Mul v e = by_test Mul (is_number 0 r || is_number 0 l) (Constant w 0) v (λ t. by (or_cases (is_number 0 r) (is_number 0 l) t)) e
    where
      by : (is_number 0 r ≡ true) ⊎ (is_number 0 l ≡ true) → Stands (Number 0) (plain_bits Mul f w (bits_of w x) (bits_of w y))
      by (inl t) = zero_by_right f w Mul 0 (mul_zero_right f w) _ _ (right_is 0 t)
      by (inr t) = zero_by_left f w Mul 0 (mul_zero_left f w) _ _ (left_is 0 t)
  zeroed_stands And v e = by_test And (is_number 0 r) (Constant w 0) v (λ t. zero_by_right f w And 0 (and_zero f w) _ _ (right_is 0 t)) e
  zeroed_stands Sub v e = by_test Sub (same l r) (Constant w 0) v (λ t. subst (λ (b : Option ℕ). Stands (Number 0) (plain_bits Sub f w (bits_of w x) b)) (same_bits t) (zero_by_both f w Sub (sub_same f w) _)) e
  zeroed_stands Xor v e = by_test Xor (same l r) (Constant w 0) v (λ t. subst (λ (b : Option ℕ). Stands (Number 0) (plain_bits Xor f w (bits_of w x) b)) (same_bits t) (zero_by_both f w Xor (xor_same f w) _)) e
  zeroed_stands Urem v e = by_test Urem (is_number 1 r) (Constant w 0) v (λ t. remainder_zero f w Urem 1 (λ a lt. inr (urem_one f w a)) x _ _ left_bits (right_is 1 t)) e
  zeroed_stands Srem v e = by_test Srem (is_number 1 r) (Constant w 0) v (λ t. remainder_zero f w Srem 1 (remainder_by_one f w) x _ _ left_bits (right_is 1 t)) e
  zeroed_stands Add v e = absurd (cc e)
  zeroed_stands Shl v e = absurd (cc e)
  zeroed_stands Udiv v e = absurd (cc e)
  zeroed_stands Sdiv v e = absurd (cc e)
  zeroed_stands Lshr v e = absurd (cc e)
  zeroed_stands Ashr v e = absurd (cc e)
  zeroed_stands Or v e = absurd (cc e)

  -- a poison operand
  plain_poison : (op : BinaryOp) (b : Option ℕ) → plain_bits op f w b None ≡ Poison
  plain_poison op None = refl
  plain_poison op (Some a) = refl

  division_poison : (op : BinaryOp) (b : Option ℕ) → StandsForAnswer Poison (division_bits op f w None b)
  division_poison op None = tt
  division_poison op (Some c) = if_never (may_break op w c) (division_cause c) (Is Poison) Poison (inl refl)

  poison_on_left : (op : BinaryOp) (t : Bool) (b : Option ℕ) → StandsForAnswer Poison (if t then division_bits op f w None b else Is (plain_bits op f w None b))
  poison_on_left op true b = division_poison op b
  poison_on_left op false b = inl refl

  poison_on_right : (op : BinaryOp) (t : Bool) (b : Option ℕ) → not t ≡ true → StandsForAnswer Poison (if t then division_bits op f w b None else Is (plain_bits op f w b None))
  poison_on_right op true b h = absurd (cc h)
  poison_on_right op false b h = inl (plain_poison op b)

  poisoned_stands : (op : BinaryOp) (v : Operand) → poisoned op w l r ≡ Some v → RowStands op v
  poisoned_stands op v e = by_test op (is_poison l || (not (is_division op) && is_poison r)) (PoisonOf (Int w)) v (λ t. by (or_cases (is_poison l) (not (is_division op) && is_poison r) t)) e
    where
      by : (is_poison l ≡ true) ⊎ ((not (is_division op) && is_poison r) ≡ true) → StandsForAnswer Poison (binary op f w x y)
      by (inl t) = subst (λ (u : Value). StandsForAnswer Poison (binary op f w u y)) (sym (poison_is sig ls l t)) (poison_on_left op (is_division op) (bits_of w y))
      by (inr t) =
          let parts = and_parts (not (is_division op)) (is_poison r) t in
          subst (λ (u : Value). StandsForAnswer Poison (binary op f w x u)) (sym (poison_is sig ls r parts.1)) (poison_on_right op (is_division op) (bits_of w x) parts.0)

  folded_stands : (op : BinaryOp) (later : Option Operand) (v : Operand) → (later ≡ Some v → RowStands op v) → folded_or op f w (number_of w l) (number_of w r) later ≡ Some v → RowStands op v
  folded_stands op later v behind e = by (number_of w l) (number_of w r) refl refl e
    where
      by : (a b : Option ℕ) → number_of w l ≡ a → number_of w r ≡ b → folded_or op f w a b later ≡ Some v → RowStands op v
      by (Some a) (Some b) ea eb e' =
          let h = constant_stands sig ls w v (binary_bits op f w (Some a) (Some b)) e' in
          subst (λ (o : Option ℕ). StandsForAnswer (value_of sig ls v) (binary_bits op f w o (bits_of w y))) (sym (number_bits sig ls w a l ea)) (subst (λ (o : Option ℕ). StandsForAnswer (value_of sig ls v) (binary_bits op f w (Some a) o)) (sym (number_bits sig ls w b r eb)) h)
      by None b ea eb e' = behind e'
      by (Some a) None ea eb e' = behind e'

  pub binary_stands : (op : BinaryOp) (v : Operand) → binary_rule op f w l r ≡ Some v → RowStands op v
  binary_stands op v e =
      folded_stands op (first (poisoned op w l r) (first (unchanged op w l r) (zeroed op w l r))) v
      (either op (poisoned op w l r) (first (unchanged op w l r) (zeroed op w l r)) v (poisoned_stands op v)
      (either op (unchanged op w l r) (zeroed op w l r) v (unchanged_stands op v) (zeroed_stands op v))) e
