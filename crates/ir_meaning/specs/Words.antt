-- What the answers and causes of the operations on words say of instructions.
use Rattle.std.specs.Prelude.{Bool, Option, Some, None}
use Rattle.ir_meaning.specs.Operate.{Answer, Is, Never, bit}
use Rattle.ir_tree.specs.declared.cause.Cause.{Cause}
use Rattle.ir_tree.specs.declared.cause.Cause.TheVariants as cause
use Rattle.ir_meaning.specs.declared.value.Value.{Value}
use Rattle.ir_meaning.specs.declared.value.Value.TheVariants as value
use Rattle.lto_bits.specs.declared.answer.Answer.{Answer as WordAnswer}
use Rattle.lto_bits.specs.declared.answer.Answer.TheVariants.{Poison, Undefined, Value as OfValue}
use Rattle.lto_bits.specs.declared.answer.DivisionCause.{DivisionCause as WordCause}
use Rattle.lto_bits.specs.declared.answer.DivisionCause.TheVariants.{DivisionByZero, DivisionOverflow, PoisonDivisor}

abbrev pub meant_cause : WordCause → Cause
meant_cause DivisionByZero = cause.DivisionByZero
meant_cause DivisionOverflow = cause.DivisionOverflow
meant_cause PoisonDivisor = cause.PoisonDivisor

-- what an answer on words says of an instruction
abbrev pub meant : WordAnswer → Answer
meant (OfValue n) = Is (value.Number n)
meant Poison = Is value.Poison
meant (Undefined why) = Never (meant_cause why)

-- a truth value, or poison
abbrev pub bit_or_poison : Option Bool → Value
bit_or_poison None = value.Poison
bit_or_poison (Some b) = bit b
