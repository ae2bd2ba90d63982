use Rattle.std.proofs.Common.{ℕ, Option, Some, sym, ap, ◌∙◌}
use Rattle.ir_meaning.specs.Operate.{binary_bits}
use Rattle.lto_bits.specs.Operation.{binary_of}
use Rattle.lto_bits.specs.declared.operator.BinaryOp.{BinaryOp as WordOp}
use Rattle.lto_bits.specs.declared.operator.Flags.{Flags as WordFlags}
use Rattle.ir_meaning.specs.Operators.{word_op}
use Rattle.ir_meaning.specs.Words.{meant}
use Rattle.ir_meaning.proofs.WordsAgreeing.{same_binary}
use Rattle.ir_meaning.proofs.operate.binary.Goals as goal

pub returns-in-Some-Some : goal.returns-in-Some-Some
returns-in-Some-Some c =
    ap meant c.binary.ensures
    ∙ ap (λ (o : WordOp). meant (binary_of o c.marks.result c.args.width c.in-Some-Some.left c.in-Some-Some.right)) c.operation.ensures
    ∙ ap (λ (f : WordFlags). meant (binary_of (word_op c.args.op) f c.args.width c.in-Some-Some.left c.in-Some-Some.right)) c.marks.ensures
    ∙ sym (same_binary c.args.op c.args.flags c.args.width c.in-Some-Some.left c.in-Some-Some.right)
    ∙ ap (λ (x : Option ℕ). binary_bits c.args.op c.args.flags c.args.width x (Some c.in-Some-Some.right)) (sym c.in-Some-Some.is-0)
    ∙ ap (λ (y : Option ℕ). binary_bits c.args.op c.args.flags c.args.width c.args.left y) (sym c.in-Some-Some.is-1)
