-- What holds of every operation.
use Rattle.std.specs.Prelude.{ℕ, ◌^◌, ◌<◌}
use Rattle.lto_bits.specs.declared.operator.BinaryOp.{BinaryOp}
use Rattle.lto_bits.specs.declared.operator.Flags.{Flags}
use Rattle.lto_bits.specs.declared.answer.Answer.{Answer}
use Rattle.lto_bits.specs.declared.answer.Answer.TheVariants.{Value, Poison, Undefined}
use Rattle.lto_bits.specs.Operation.{binary_of}

-- a number that is answered is one of the width
abbrev pub IsBelow : ℕ → Answer → Type 0
IsBelow w (Value n) = n < 2 ^ w
IsBelow w Poison = Unit {0}
IsBelow w (Undefined cause) = Unit {0}

abbrev pub AnswersBelow : Type 0
AnswersBelow = (op : BinaryOp) (f : Flags) (w a b : ℕ) → a < 2 ^ w → b < 2 ^ w → IsBelow w (binary_of op f w a b)
