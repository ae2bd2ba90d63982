-- The operations on words are those of instructions.
use Rattle.std.specs.Prelude.{◌≡◌, ℕ, ◌≤◌, ◌<◌, ◌^◌, true, false, if◌then◌else◌}
use Rattle.ir_tree.specs.declared.instr.BinaryOp.{BinaryOp}
use Rattle.ir_tree.specs.declared.instr.CastOp.{CastOp}
use Rattle.ir_tree.specs.declared.instr.CastOp.TheVariants.{Sext, Trunc, Zext}
use Rattle.ir_tree.specs.declared.instr.Flags.{Flags}
use Rattle.ir_tree.specs.declared.instr.Predicate.{Predicate}
use Rattle.ir_tree.specs.declared.operand.Reg.TheVariants.{Int}
use Rattle.ir_meaning.specs.Operate.{Answer, Is, Never, binary, bit, cast, compared}
use Rattle.ir_meaning.specs.Arithmetic.{division_cause, may_break}
use Rattle.ir_meaning.specs.declared.value.Value.TheVariants.{Number, Poison}
use Rattle.lto_bits.specs.Cast.{narrowed, widened}
use Rattle.lto_bits.specs.Comparison.{compared as word_compared}
use Rattle.lto_bits.specs.Operation.{binary_of}
use Rattle.ir_meaning.specs.Operators.{word_flags, word_op, word_predicate}
use Rattle.ir_meaning.specs.Words.{meant}

-- on numbers of their width
pub record OperationsAgree : Type 0 where
  pub binary : (op : BinaryOp) (f : Flags) (w a b : ℕ) → a < 2 ^ w → b < 2 ^ w →
      binary op f w (Number a) (Number b) ≡ meant (binary_of (word_op op) (word_flags f) w a b)
  pub compared : (p : Predicate) (w a b : ℕ) → a < 2 ^ w → b < 2 ^ w →
      compared p w (Number a) (Number b) ≡ bit (word_compared (word_predicate p) w a b)
  pub zext : (from to a : ℕ) → a < 2 ^ from → cast Zext (Int from) (Int to) (Number a) ≡ Number (widened false from to a)
  pub sext : (from to a : ℕ) → a < 2 ^ from → cast Sext (Int from) (Int to) (Number a) ≡ Number (widened true from to a)
  pub trunc : (from to a : ℕ) → a < 2 ^ from → cast Trunc (Int from) (Int to) (Number a) ≡ Number (narrowed to a)

-- the casts that widen don't narrow
abbrev pub IsCast : CastOp → ℕ → ℕ → Type 0
IsCast Trunc from to = Unit {0}
IsCast op from to = from ≤ to

-- poison divided by b
abbrev pub poison_quotient : BinaryOp → ℕ → ℕ → Answer
poison_quotient op w b = if may_break op w b then Never (division_cause b) else Is Poison
