use Rattle.std.proofs.Common.{◌≡◌, ℕ, Option, Some, sym, ap, ◌∙◌}
use Rattle.ir_tree.specs.declared.instr.CastOp.{CastOp}
use Rattle.ir_tree.specs.declared.instr.CastOp.TheVariants.{Sext, Trunc, Zext}
use Rattle.ir_meaning.specs.Operate.{cast_bits}
use Rattle.ir_meaning.specs.Arithmetic.{cast_number}
use Rattle.ir_meaning.specs.declared.value.Value.TheVariants.{Number}
use Rattle.ir_meaning.proofs.operate.cast.Goals as goal

-- a number that the operator makes of the operand
made : (op own : CastOp) (from to : ℕ) (value : Option ℕ) (a n : ℕ) → n ≡ cast_number own from to a → op ≡ own → value ≡ Some a →
    Number n ≡ cast_bits op from to value
made op own from to value a n e is has =
    ap Number e
    ∙ ap (λ (o : CastOp). cast_bits o from to (Some a)) (sym is)
    ∙ ap (λ (v : Option ℕ). cast_bits op from to v) (sym has)

pub returns-in-Zext : goal.returns-in-Zext
returns-in-Zext c =
    made c.args.op Zext c.args.from c.args.to c.args.value c.in_ok-number.number c.widen.result
    c.widen.ensures c.in-Zext.is c.in_ok-number.was

pub returns-in-Sext : goal.returns-in-Sext
returns-in-Sext c =
    made c.args.op Sext c.args.from c.args.to c.args.value c.in_ok-number.number c.widen-in-Sext.result
    c.widen-in-Sext.ensures c.in-Sext.is c.in_ok-number.was

pub returns-in-Trunc : goal.returns-in-Trunc
returns-in-Trunc c =
    made c.args.op Trunc c.args.from c.args.to c.args.value c.in_ok-number.number c.narrow.result
    c.narrow.ensures c.in-Trunc.is c.in_ok-number.was
