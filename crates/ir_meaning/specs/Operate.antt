-- The operations on values: what is a number where it is one, and poison or the end of the run elsewhere
-- (LangRef, "Poison Values", "Binary Operations", "Conversion Operations", "select" and "freeze Instruction").
--
-- An operand that is poison, a pointer or no number of the operation's width counts as poison, so the
-- meaning is total and nothing below asks that code is well typed.
use Rattle.std.specs.Prelude.{ℕ, zero, suc, ◌%◌, ◌^◌, Bool, nat_lt, if◌then◌else◌, Option, Some, None}
use Rattle.ir_tree.specs.declared.instr.BinaryOp.{BinaryOp}
use Rattle.ir_tree.specs.declared.instr.CastOp.{CastOp}
use Rattle.ir_tree.specs.declared.instr.Flags.{Flags}
use Rattle.ir_tree.specs.declared.instr.Predicate.{Predicate}
use Rattle.ir_tree.specs.declared.operand.Reg.{Reg}
use Rattle.ir_tree.specs.declared.operand.Reg.TheVariants.{Int, Ptr}
use Rattle.ir_meaning.specs.Arithmetic.{arithmetic, breaks, cast_number, compare, division_cause, is_division, may_break}
use Rattle.ir_tree.specs.declared.cause.Cause.{Cause}
use Rattle.ir_tree.specs.declared.cause.Cause.TheVariants.{PoisonDivisor}
use Rattle.ir_meaning.specs.declared.value.Value.{Value}
use Rattle.ir_meaning.specs.declared.value.Value.TheVariants.{Number, Poison}

-- what an instruction computes: a value, or the end of the run, by undefined behaviour or an unwritten byte
pub data Answer : Type 0 where
  Is : (value : Value) → Answer
  Never : (cause : Cause) → Answer
  Unwritten : Answer

abbrev pub number_or_poison : Option ℕ → Value
number_or_poison None = Poison
number_or_poison (Some n) = Number n

-- the number that an operand of this width is: none where it is poison, a pointer or no number of the width
abbrev pub bits_of : ℕ → Value → Option ℕ
bits_of w (Number n) = if nat_lt n (2 ^ w) then Some n else None
bits_of w _ = None

abbrev pub plain_bits : BinaryOp → Flags → ℕ → Option ℕ → Option ℕ → Value
plain_bits op f w (Some a) (Some b) = number_or_poison (arithmetic op f w a b)
plain_bits op f w _ _ = Poison

-- a poison dividend may be any number, so a divisor that breaks for one breaks for it
abbrev pub division_bits : BinaryOp → Flags → ℕ → Option ℕ → Option ℕ → Answer
division_bits op f w (Some a) (Some b) = if breaks op w a b then Never (division_cause b) else Is (number_or_poison (arithmetic op f w a b))
division_bits op f w None (Some b) = if may_break op w b then Never (division_cause b) else Is Poison
division_bits op f w a None = Never PoisonDivisor

abbrev pub binary_bits : BinaryOp → Flags → ℕ → Option ℕ → Option ℕ → Answer
binary_bits op f w a b = if is_division op then division_bits op f w a b else Is (plain_bits op f w a b)

abbrev pub binary : BinaryOp → Flags → ℕ → Value → Value → Answer
binary op f w v u = binary_bits op f w (bits_of w v) (bits_of w u)

abbrev pub bit : Bool → Value
bit b = Number (if b then 1 else 0)

abbrev pub compared_bits : Predicate → ℕ → Option ℕ → Option ℕ → Value
compared_bits p w (Some a) (Some b) = bit (compare p w a b)
compared_bits p w _ _ = Poison

abbrev pub compared : Predicate → ℕ → Value → Value → Value
compared p w v u = compared_bits p w (bits_of w v) (bits_of w u)

abbrev pub cast_bits : CastOp → ℕ → ℕ → Option ℕ → Value
cast_bits op from to (Some a) = Number (cast_number op from to a)
cast_bits op from to None = Poison

abbrev pub cast : CastOp → Reg → Reg → Value → Value
cast op (Int from) (Int to) v = cast_bits op from to (bits_of from v)
cast op _ _ v = Poison

-- of a `select` only the chosen arm counts
abbrev pub selected_bits : Option ℕ → Value → Value → Value
selected_bits (Some zero) v u = u
selected_bits (Some (suc n)) v u = v
selected_bits None v u = Poison

abbrev pub selected : Value → Value → Value → Value
selected c v u = selected_bits (bits_of 1 c) v u

-- a number as it is, and else the free choice
abbrev pub frozen_bits : ℕ → ℕ → Option ℕ → Value
frozen_bits w choice (Some n) = Number n
frozen_bits w choice None = Number (choice % 2 ^ w)

abbrev pub frozen : Reg → ℕ → Value → Value
frozen (Int w) choice v = frozen_bits w choice (bits_of w v)
frozen Ptr choice v = Poison
