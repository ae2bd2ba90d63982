-- The operators of instructions on numbers of w bits: those on words (`lto_bits`), which follow the LangRef, "Binary
-- Operations", "Bitwise Binary Operations", "icmp Instruction", "zext .. to", "sext .. to" and "trunc .. to Instruction".
use Rattle.std.specs.Prelude.{ℕ, Bool, true, false, ◌==◌, if◌then◌else◌, Option}
use Rattle.ir_tree.specs.declared.instr.BinaryOp.{BinaryOp}
use Rattle.ir_tree.specs.declared.instr.CastOp.{CastOp}
use Rattle.ir_tree.specs.declared.instr.CastOp.TheVariants.{Sext, Trunc, Zext}
use Rattle.ir_tree.specs.declared.instr.Flags.{Flags}
use Rattle.ir_tree.specs.declared.instr.Predicate.{Predicate}
use Rattle.lto_bits.specs.Cast.{narrowed, widened}
use Rattle.lto_bits.specs.Comparison.{compared as word_compared}
use Rattle.lto_bits.specs.Operation.{arithmetic as word_arithmetic, breaks as word_breaks, is_division as is_word_division, may_break as may_word_break}
use Rattle.ir_meaning.specs.Operators.{word_flags, word_op, word_predicate}
use Rattle.ir_tree.specs.declared.cause.Cause.{Cause}
use Rattle.ir_tree.specs.declared.cause.Cause.TheVariants.{DivisionByZero, DivisionOverflow}

-- the number that an operation gives where it is defined; none is poison
abbrev pub arithmetic : BinaryOp → Flags → ℕ → ℕ → ℕ → Option ℕ
arithmetic op f w a b = word_arithmetic (word_op op) (word_flags f) w a b

abbrev pub is_division : BinaryOp → Bool
is_division op = is_word_division (word_op op)

-- a division of some dividend by b is undefined: by zero, or signed by -1
abbrev pub may_break : BinaryOp → ℕ → ℕ → Bool
may_break op w b = may_word_break (word_op op) w b

-- the division is undefined: by zero, or the least number by -1
abbrev pub breaks : BinaryOp → ℕ → ℕ → ℕ → Bool
breaks op w a b = word_breaks (word_op op) w a b

-- why a division by b that breaks does so
abbrev pub division_cause : ℕ → Cause
division_cause b = if b == 0 then DivisionByZero else DivisionOverflow

-- whether a predicate of `icmp` holds
abbrev pub compare : Predicate → ℕ → ℕ → ℕ → Bool
compare p w a b = word_compared (word_predicate p) w a b

-- a number of `from` bits as one of `to` bits
abbrev pub cast_number : CastOp → ℕ → ℕ → ℕ → ℕ
cast_number Zext from to a = widened false from to a
cast_number Sext from to a = widened true from to a
cast_number Trunc from to a = narrowed to a
