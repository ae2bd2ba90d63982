-- Numbers that operations answer are below 2 ^ w.
use Rattle.std.proofs.Common.{ℕ, ◌+◌, ◌-◌, ◌*◌, ◌/◌, ◌%◌, ◌^◌, ◌<◌, arith, ℤ, pos, negsuc, Bool, true, false, cond}
use Rattle.std.specs.Prelude.{int_div, int_rem, not, ◌||◌, ◌==◌}
use Rattle.std.proofs.Math.Nat.{div-le_self, mod-le}
use Rattle.std.proofs.lemmas.Nat.{mod_below, pow_pos, and_le_l, or_lt, xor_lt}
use Rattle.lto_bits.specs.declared.operator.BinaryOp.{BinaryOp}
use Rattle.lto_bits.specs.declared.operator.BinaryOp.TheVariants.{Add, Sub, Mul, Udiv, Sdiv, Urem, Srem, Shl, Lshr, Ashr, And, Or, Xor}
use Rattle.lto_bits.specs.declared.operator.Flags.{Flags}
use Rattle.lto_bits.specs.declared.answer.Answer.{Answer}
use Rattle.lto_bits.specs.declared.answer.Answer.TheVariants.{Undefined}
use Rattle.lto_bits.specs.declared.answer.DivisionCause.{DivisionCause}
use Rattle.lto_bits.specs.Laws.{IsBelow}
use Rattle.lto_bits.specs.Operation.{arithmetic, value_or_poison, allowed, binary_of, cause_of, breaks, plain}
use Rattle.lto_bits.specs.Word.{signed, wrapped}

below_allowed : (w n : ℕ) (t : Bool) → n < 2 ^ w → IsBelow w (value_or_poison (allowed t n))
below_allowed w n true h = h
below_allowed w n false h = tt

below_division : (w : ℕ) (t : Bool) (cause : DivisionCause) (x : Answer) → IsBelow w x → IsBelow w (cond t (Undefined cause) x)
below_division w true cause x h = tt
below_division w false cause x h = h

modulo_below : (w n : ℕ) → n % 2 ^ w < 2 ^ w
modulo_below w n = mod_below n (2 ^ w) (pow_pos w)

complement_below : (w n : ℕ) → 2 ^ w - 1 - n < 2 ^ w
complement_below w n = omega (arith, pow_pos w)

quotient_below : (w n d : ℕ) → n < 2 ^ w → n / d < 2 ^ w
quotient_below w n d h = omega (arith, div-le_self n d)

wrapped_below : (w : ℕ) (z : ℤ) → wrapped w z < 2 ^ w
wrapped_below w (pos n) = modulo_below w n
wrapped_below w (negsuc n) = complement_below w (n % 2 ^ w)

cond_below : (m : ℕ) (t : Bool) (x y : ℕ) → x < m → y < m → cond t x y < m
cond_below m true x y p q = p
cond_below m false x y p q = q

pub binary_below : (op : BinaryOp) (f : Flags) (w a b : ℕ) → a < 2 ^ w → b < 2 ^ w → IsBelow w (binary_of op f w a b)
unfolding arithmetic
binary_below Add f w a b p q = below_allowed w _ _ (modulo_below w (a + b))
binary_below Sub f w a b p q = below_allowed w _ _ (modulo_below w (a + 2 ^ w - b))
binary_below Mul f w a b p q = below_allowed w _ _ (modulo_below w (a * b))
binary_below Udiv f w a b p q =
    below_division w (breaks Udiv w a b) (cause_of b) (plain Udiv f w a b)
    (below_allowed w (a / b) (not f.exact || (a % b == 0)) (quotient_below w a b p))
binary_below Sdiv f w a b p q =
    let quotient = int_div (signed w a) (signed w b) in
    let remainder = int_rem (signed w a) (signed w b) in
    below_division w (breaks Sdiv w a b) (cause_of b) (plain Sdiv f w a b)
    (below_allowed w (wrapped w quotient) (not f.exact || (wrapped w remainder == 0)) (wrapped_below w quotient))
binary_below Urem f w a b p q =
    let below : a % b < 2 ^ w = omega (arith, mod-le a b) in
    below_division w (breaks Urem w a b) (cause_of b) (plain Urem f w a b) below
binary_below Srem f w a b p q = below_division w (breaks Srem w a b) (cause_of b) (plain Srem f w a b) (wrapped_below w (int_rem (signed w a) (signed w b)))
binary_below Shl f w a b p q = below_allowed w _ _ (modulo_below w (a * 2 ^ b))
binary_below Lshr f w a b p q = below_allowed w _ _ (quotient_below w a (2 ^ b) p)
binary_below Ashr f w a b p q = below_allowed w _ _ (cond_below (2 ^ w) _ _ _ (quotient_below w a (2 ^ b) p) (complement_below w ((2 ^ w - 1 - a) / 2 ^ b)))
binary_below And f w a b p q = omega (arith, and_le_l a b)
binary_below Or f w a b p q = or_lt w a b p q
binary_below Xor f w a b p q = xor_lt w a b p q
