-- The operations on words are those of instructions, operator by operator.
use Rattle.std.proofs.Common.{◌≡◌, ℕ, ◌-◌, ◌<◌, ◌^◌, ◌==◌, Bool, ◌&&◌, ◌||◌, true, false, if◌then◌else◌, Option, Some, None, refl, sym, ap, ◌∙◌}
use Rattle.std.proofs.lemmas.Bool.{eq-eqb, lt-ltb}
use Rattle.ir_tree.specs.declared.instr.BinaryOp.{BinaryOp}
use Rattle.ir_tree.specs.declared.instr.BinaryOp.TheVariants.{Add, And, Ashr, Lshr, Mul, Or, Sdiv, Shl, Srem, Sub, Udiv, Urem, Xor}
use Rattle.ir_tree.specs.declared.instr.CastOp.TheVariants.{Sext, Trunc, Zext}
use Rattle.ir_tree.specs.declared.instr.Flags.{Flags}
use Rattle.ir_meaning.specs.Operate.{Is, Never, binary_bits, bits_of, cast_bits, compared_bits, number_or_poison}
use Rattle.ir_meaning.specs.Arithmetic.{arithmetic, breaks, division_cause, is_division, may_break}
use Rattle.ir_tree.specs.declared.cause.Cause.TheVariants as cause
use Rattle.ir_meaning.specs.declared.value.Value.TheVariants.{Number}
use Rattle.ir_meaning.specs.declared.value.Value.TheVariants as value
use Rattle.lto_bits.specs.Operation.{arithmetic as word_arithmetic, binary_of, cause_of, value_or_poison}
use Rattle.lto_bits.specs.declared.answer.Answer.{Answer as WordAnswer}
use Rattle.lto_bits.specs.declared.answer.Answer.TheVariants.{Undefined}
use Rattle.lto_bits.specs.declared.answer.DivisionCause.{DivisionCause as WordCause}
use Rattle.lto_bits.specs.declared.operator.Flags.{Flags as WordFlags}
use Rattle.lto_bits.specs.declared.answer.DivisionCause.TheVariants.{DivisionByZero, DivisionOverflow}
use Rattle.ir_meaning.specs.WordsAgree.{OperationsAgree, poison_quotient}
use Rattle.ir_meaning.specs.Operators.{word_flags, word_op}
use Rattle.ir_meaning.specs.Words.{meant, meant_cause}

same_value : (r : Option ℕ) → Is (number_or_poison r) ≡ meant (value_or_poison r)
same_value None = refl
same_value (Some n) = refl

same_cause : (b : Bool) → (if b then cause.DivisionByZero else cause.DivisionOverflow) ≡ meant_cause (if b then DivisionByZero else DivisionOverflow)
same_cause true = refl
same_cause false = refl

same_division : (breaks : Bool) (r : Option ℕ) (b : ℕ) →
    (if breaks then Never (division_cause b) else Is (number_or_poison r)) ≡ meant (if breaks then Undefined (cause_of b) else value_or_poison r)
same_division true r b = ap Never (same_cause (b == 0))
same_division false r b = same_value r

pub same_binary : (op : BinaryOp) (f : Flags) (w a b : ℕ) →
    binary_bits op f w (Some a) (Some b) ≡ meant (binary_of (word_op op) (word_flags f) w a b)
same_binary Add f w a b = same_value (arithmetic Add f w a b)
same_binary Sub f w a b = same_value (arithmetic Sub f w a b)
same_binary Mul f w a b = same_value (arithmetic Mul f w a b)
same_binary Shl f w a b = same_value (arithmetic Shl f w a b)
same_binary Udiv f w a b = same_division (breaks Udiv w a b) (arithmetic Udiv f w a b) b
same_binary Sdiv f w a b = same_division (breaks Sdiv w a b) (arithmetic Sdiv f w a b) b
same_binary Lshr f w a b = same_value (arithmetic Lshr f w a b)
same_binary Ashr f w a b = same_value (arithmetic Ashr f w a b)
same_binary Urem f w a b = same_division (breaks Urem w a b) (arithmetic Urem f w a b) b
same_binary Srem f w a b = same_division (breaks Srem w a b) (arithmetic Srem f w a b) b
same_binary And f w a b = same_value (arithmetic And f w a b)
same_binary Or f w a b = same_value (arithmetic Or f w a b)
same_binary Xor f w a b = same_value (arithmetic Xor f w a b)

-- ---- poison as a dividend

and_true : (b : Bool) → (b && true) ≡ b
and_true true = refl
and_true false = refl

or_true : (b : Bool) → (b || true) ≡ true
or_true true = refl
or_true false = refl

-- of all dividends the least one breaks where any does
least_breaks : (op : BinaryOp) (w b : ℕ) → breaks op w (2 ^ (w - 1)) b ≡ may_break op w b
least_breaks op w b =
    ap (λ (t : Bool). may_break op w b && ((b == 0) || t)) (eq-eqb (2 ^ (w - 1)) (2 ^ (w - 1)) refl)
    ∙ ap (λ (t : Bool). may_break op w b && t) (or_true (b == 0))
    ∙ and_true (may_break op w b)

abbrev quotient : Bool → Option ℕ → ℕ → WordAnswer
quotient broken r b = if broken then Undefined (cause_of b) else value_or_poison r

division_is : (op : BinaryOp) (f : WordFlags) (w a b : ℕ) → is_division op ≡ true →
    binary_of (word_op op) f w a b ≡ quotient (breaks op w a b) (word_arithmetic (word_op op) f w a b) b
division_is Udiv f w a b h = refl
division_is Sdiv f w a b h = refl
division_is Urem f w a b h = refl
division_is Srem f w a b h = refl
division_is op f w a b h = absurd (cc h)

least_divided : (op : BinaryOp) (f : WordFlags) (w b : ℕ) → is_division op ≡ true →
    binary_of (word_op op) f w (2 ^ (w - 1)) b ≡ quotient (may_break op w b) (word_arithmetic (word_op op) f w (2 ^ (w - 1)) b) b
least_divided op f w b h =
    division_is op f w (2 ^ (w - 1)) b h
    ∙ ap (λ (t : Bool). quotient t (word_arithmetic (word_op op) f w (2 ^ (w - 1)) b) b) (least_breaks op w b)

broken : (breaks : Bool) (r : Option ℕ) (b : ℕ) (why : WordCause) → quotient breaks r b ≡ Undefined why →
    Never (meant_cause why) ≡ (if breaks then Never (division_cause b) else Is value.Poison)
broken true r b why e =
    let is : why ≡ cause_of b = cc e in
    ap Never (ap meant_cause is ∙ sym (same_cause (b == 0)))
broken false None b why e = absurd (cc e)
broken false (Some n) b why e = absurd (cc e)

whole : (breaks : Bool) (r : Option ℕ) (b : ℕ) → ((why : WordCause) → quotient breaks r b ≡ Undefined why → ⊥) →
    Is value.Poison ≡ (if breaks then Never (division_cause b) else Is value.Poison)
whole true r b h = absurd (h (cause_of b) refl)
whole false r b h = refl

-- where the division of the least number is undefined, so is that of poison, and for the same cause
pub poison_broken : (op : BinaryOp) (f : WordFlags) (w b : ℕ) (why : WordCause) → is_division op ≡ true →
    binary_of (word_op op) f w (2 ^ (w - 1)) b ≡ Undefined why → Never (meant_cause why) ≡ poison_quotient op w b
poison_broken op f w b why h e =
    broken (may_break op w b) (word_arithmetic (word_op op) f w (2 ^ (w - 1)) b) b why (sym (least_divided op f w b h) ∙ e)

-- and where it isn't, that of poison is poison
pub poison_whole : (op : BinaryOp) (f : WordFlags) (w b : ℕ) → is_division op ≡ true →
    ((why : WordCause) → binary_of (word_op op) f w (2 ^ (w - 1)) b ≡ Undefined why → ⊥) → Is value.Poison ≡ poison_quotient op w b
poison_whole op f w b h none =
    whole (may_break op w b) (word_arithmetic (word_op op) f w (2 ^ (w - 1)) b) b (λ why e. none why (least_divided op f w b h ∙ e))

-- a number of the width is its bits
pub in_width : (w a : ℕ) → a < 2 ^ w → bits_of w (Number a) ≡ Some a
in_width w a h = ap (λ (b : Bool). if b then Some a else None) (lt-ltb a (2 ^ w) h)

pub agreeing : OperationsAgree
agreeing = record {
  binary = λ op f w a b h k.
      ap (λ (x : Option ℕ). binary_bits op f w x (bits_of w (Number b))) (in_width w a h)
      ∙ ap (λ (y : Option ℕ). binary_bits op f w (Some a) y) (in_width w b k)
      ∙ same_binary op f w a b;
  compared = λ p w a b h k.
      ap (λ (x : Option ℕ). compared_bits p w x (bits_of w (Number b))) (in_width w a h)
      ∙ ap (λ (y : Option ℕ). compared_bits p w (Some a) y) (in_width w b k);
  zext = λ from to a h. ap (cast_bits Zext from to) (in_width from a h);
  sext = λ from to a h. ap (cast_bits Sext from to) (in_width from a h);
  trunc = λ from to a h. ap (cast_bits Trunc from to) (in_width from a h);
}
