-- The numbers that operations give are numbers of their width.
use Rattle.std.proofs.Common.{ℕ, ◌+◌, ◌-◌, ◌*◌, ◌/◌, ◌%◌, ◌^◌, ◌<◌, arith, Bool, true, false, not, ◌||◌, ◌==◌, if◌then◌else◌, Option, Some, None}
use Rattle.std.specs.Prelude.{ℤ, pos, negsuc, int_div, int_rem}
use Rattle.std.proofs.Math.Nat.{div-le_self, mod-le}
use Rattle.std.proofs.lemmas.Nat.{mod_below, pow_pos, and_le_l, or_lt, xor_lt}
use Rattle.ir_tree.specs.declared.instr.BinaryOp.{BinaryOp}
use Rattle.ir_tree.specs.declared.instr.BinaryOp.TheVariants.{Add, And, Ashr, Lshr, Mul, Or, Sdiv, Shl, Srem, Sub, Udiv, Urem, Xor}
use Rattle.ir_tree.specs.declared.instr.CastOp.TheVariants.{Sext, Trunc, Zext}
use Rattle.ir_tree.specs.declared.instr.Flags.{Flags}
use Rattle.lto_bits.specs.Operation.{allowed, arithmetic as word_arithmetic}
use Rattle.lto_bits.specs.Word.{signed, wrapped}
use Rattle.ir_meaning.specs.Arithmetic.{arithmetic, cast_number}

abbrev pub Small : ℕ → Option ℕ → Type 0
Small w None = Unit {0}
Small w (Some n) = n < 2 ^ w

small_allowed : (w n : ℕ) (t : Bool) → n < 2 ^ w → Small w (allowed t n)
small_allowed w n true h = h
small_allowed w n false h = tt

pub modulo_small : (w n : ℕ) → n % 2 ^ w < 2 ^ w
modulo_small w n = mod_below n (2 ^ w) (pow_pos w)

complement_small : (w n : ℕ) → 2 ^ w - 1 - n < 2 ^ w
complement_small w n = omega (arith, pow_pos w)

quotient_small : (w n d : ℕ) → n < 2 ^ w → n / d < 2 ^ w
quotient_small w n d h = omega (arith, div-le_self n d)

pub wrapped_small : (w : ℕ) (z : ℤ) → wrapped w z < 2 ^ w
wrapped_small w (pos n) = modulo_small w n
wrapped_small w (negsuc n) = complement_small w (n % 2 ^ w)

choice_small : (m : ℕ) (t : Bool) (x y : ℕ) → x < m → y < m → (if t then x else y) < m
choice_small m true x y p q = p
choice_small m false x y p q = q

pub arithmetic_small : (op : BinaryOp) (f : Flags) (w a b : ℕ) → a < 2 ^ w → b < 2 ^ w → Small w (arithmetic op f w a b)
unfolding word_arithmetic
arithmetic_small Add f w a b p q = small_allowed w _ _ (modulo_small w (a + b))
arithmetic_small Sub f w a b p q = small_allowed w _ _ (modulo_small w (a + 2 ^ w - b))
arithmetic_small Mul f w a b p q = small_allowed w _ _ (modulo_small w (a * b))
arithmetic_small Udiv f w a b p q = small_allowed w (a / b) (not f.exact || (a % b == 0)) (quotient_small w a b p)
arithmetic_small Sdiv f w a b p q =
    small_allowed w (wrapped w (int_div (signed w a) (signed w b))) (not f.exact || (wrapped w (int_rem (signed w a) (signed w b)) == 0)) (wrapped_small w (int_div (signed w a) (signed w b)))
arithmetic_small Urem f w a b p q = omega (arith, mod-le a b, p)
arithmetic_small Srem f w a b p q = wrapped_small w (int_rem (signed w a) (signed w b))
arithmetic_small Shl f w a b p q = small_allowed w _ _ (modulo_small w (a * 2 ^ b))
arithmetic_small Lshr f w a b p q = small_allowed w _ _ (quotient_small w a (2 ^ b) p)
arithmetic_small Ashr f w a b p q = small_allowed w _ _ (choice_small (2 ^ w) _ _ _ (quotient_small w a (2 ^ b) p) (complement_small w ((2 ^ w - 1 - a) / 2 ^ b)))
arithmetic_small And f w a b p q = omega (arith, and_le_l a b, p)
arithmetic_small Or f w a b p q = or_lt w a b p q
arithmetic_small Xor f w a b p q = xor_lt w a b p q

pub extended_small : (from to a : ℕ) → a < 2 ^ from → 2 ^ from < 2 ^ to → cast_number Zext from to a < 2 ^ to
extended_small from to a p q = omega (arith, p, q)

pub sign_extended_small : (from to a : ℕ) → cast_number Sext from to a < 2 ^ to
sign_extended_small from to a = wrapped_small to (signed from a)

pub truncated_small : (from to a : ℕ) → cast_number Trunc from to a < 2 ^ to
truncated_small from to a = modulo_small to a
