-- Binary operations on numbers of w bits, as the LLVM Language Reference gives them
-- ("Binary Operations", "Bitwise Binary Operations").
use Rattle.std.specs.Prelude.{ℕ, ◌+◌, ◌-◌, ◌*◌, ◌/◌, ◌%◌, ◌^◌, Bool, true, false, not, ◌&&◌, ◌||◌, nat_lt, nat_le, ◌==◌, if◌then◌else◌, pos, ◌+ℤ◌, ◌-ℤ◌, ◌*ℤ◌, int_div, int_rem, bit_and, bit_or, bit_xor, Option, Some, None}
use Rattle.lto_bits.specs.declared.operator.BinaryOp.{BinaryOp}
use Rattle.lto_bits.specs.declared.operator.BinaryOp.TheVariants.{Add, Sub, Mul, Udiv, Sdiv, Urem, Srem, Shl, Lshr, Ashr, And, Or, Xor}
use Rattle.lto_bits.specs.declared.operator.Flags.{Flags}
use Rattle.lto_bits.specs.declared.answer.Answer.{Answer}
use Rattle.lto_bits.specs.declared.answer.Answer.TheVariants.{Value, Poison, Undefined}
use Rattle.lto_bits.specs.declared.answer.DivisionCause.{DivisionCause}
use Rattle.lto_bits.specs.declared.answer.DivisionCause.TheVariants.{DivisionByZero, DivisionOverflow}
use Rattle.lto_bits.specs.Word.{signed, wrapped, fits_signed, ashr_of}

-- the number, where no flag forbids it
abbrev pub allowed : Bool → ℕ → Option ℕ
allowed b n = if b then Some n else None

-- the number that an operation gives where it is defined; none is poison
unfoldable pub arithmetic : BinaryOp → Flags → ℕ → ℕ → ℕ → Option ℕ
arithmetic Add f w a b = allowed ((not f.nuw || nat_lt (a + b) (2 ^ w)) && (not f.nsw || fits_signed w (signed w a +ℤ signed w b))) ((a + b) % 2 ^ w)
arithmetic Sub f w a b = allowed ((not f.nuw || nat_le b a) && (not f.nsw || fits_signed w (signed w a -ℤ signed w b))) ((a + 2 ^ w - b) % 2 ^ w)
arithmetic Mul f w a b = allowed ((not f.nuw || nat_lt (a * b) (2 ^ w)) && (not f.nsw || fits_signed w (signed w a *ℤ signed w b))) (a * b % 2 ^ w)
arithmetic Udiv f w a b = allowed (not f.exact || (a % b == 0)) (a / b)
arithmetic Sdiv f w a b = allowed (not f.exact || (wrapped w (int_rem (signed w a) (signed w b)) == 0)) (wrapped w (int_div (signed w a) (signed w b)))
arithmetic Urem f w a b = Some (a % b)
arithmetic Srem f w a b = Some (wrapped w (int_rem (signed w a) (signed w b)))
arithmetic Shl f w a b = allowed (nat_lt b w && (not f.nuw || nat_lt (a * 2 ^ b) (2 ^ w)) && (not f.nsw || fits_signed w (signed w a *ℤ pos (2 ^ b)))) (a * 2 ^ b % 2 ^ w)
arithmetic Lshr f w a b = allowed (nat_lt b w && (not f.exact || (a % 2 ^ b == 0))) (a / 2 ^ b)
arithmetic Ashr f w a b = allowed (nat_lt b w && (not f.exact || (a % 2 ^ b == 0))) (ashr_of w a b)
arithmetic And f w a b = Some (bit_and a b)
arithmetic Or f w a b = Some (bit_or a b)
arithmetic Xor f w a b = Some (bit_xor a b)

abbrev pub is_division : BinaryOp → Bool
is_division Udiv = true
is_division Sdiv = true
is_division Urem = true
is_division Srem = true
is_division _ = false

abbrev pub is_signed_division : BinaryOp → Bool
is_signed_division Sdiv = true
is_signed_division Srem = true
is_signed_division _ = false

-- the divisor may make the division undefined: it is zero, or -1 of a signed division
abbrev pub may_break : BinaryOp → ℕ → ℕ → Bool
may_break op w b = (b == 0) || (is_signed_division op && (b == 2 ^ w - 1))

-- the division is undefined: by zero, or the least number by -1
abbrev pub breaks : BinaryOp → ℕ → ℕ → ℕ → Bool
breaks op w a b = may_break op w b && ((b == 0) || (a == 2 ^ (w - 1)))

-- why a division that breaks does so
abbrev pub cause_of : ℕ → DivisionCause
cause_of b = if b == 0 then DivisionByZero else DivisionOverflow

abbrev pub value_or_poison : Option ℕ → Answer
value_or_poison (Some n) = Value n
value_or_poison None = Poison

-- an operation that is no division
abbrev pub plain : BinaryOp → Flags → ℕ → ℕ → ℕ → Answer
plain op f w a b = value_or_poison (arithmetic op f w a b)

abbrev pub division : BinaryOp → Flags → ℕ → ℕ → ℕ → Answer
division op f w a b = if breaks op w a b then Undefined (cause_of b) else plain op f w a b

abbrev pub binary_of : BinaryOp → Flags → ℕ → ℕ → ℕ → Answer
binary_of op f w a b = if is_division op then division op f w a b else plain op f w a b
