-- Integer comparison (LLVM Language Reference, "icmp Instruction").
use Rattle.std.specs.Prelude.{ℕ, Bool, not, ◌==◌, nat_lt, nat_le, int_lt, int_le}
use Rattle.lto_bits.specs.declared.operator.Predicate.{Predicate}
use Rattle.lto_bits.specs.declared.operator.Predicate.TheVariants.{Eq, Ne, Ugt, Uge, Ult, Ule, Sgt, Sge, Slt, Sle}
use Rattle.lto_bits.specs.Word.{signed}

-- whether the condition holds of two numbers of w bits
unfoldable pub compared : Predicate → ℕ → ℕ → ℕ → Bool
compared Eq w a b = a == b
compared Ne w a b = not (a == b)
compared Ugt w a b = nat_lt b a
compared Uge w a b = nat_le b a
compared Ult w a b = nat_lt a b
compared Ule w a b = nat_le a b
compared Sgt w a b = int_lt (signed w b) (signed w a)
compared Sge w a b = int_le (signed w b) (signed w a)
compared Slt w a b = int_lt (signed w a) (signed w b)
compared Sle w a b = int_le (signed w a) (signed w b)
