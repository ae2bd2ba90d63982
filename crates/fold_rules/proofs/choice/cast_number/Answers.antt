use Rattle.std.proofs.Common.{sym, ap, ◌∙◌}
use Rattle.ir_tree.specs.declared.instr.CastOp.{CastOp}
use Rattle.ir_meaning.specs.Arithmetic.{cast_number}
use Rattle.lto_bits.specs.Cast.{narrowed}
use Rattle.fold_rules.proofs.Casts.{sign_extended}
use Rattle.fold_rules.proofs.choice.cast_number.Goals as goal

pub returns-in-Zext : goal.returns-in-Zext
returns-in-Zext c =
    ap (λ (o : CastOp). cast_number o c.args.from c.args.to c.args.number) (sym c.in-Zext.is)

pub returns-in-Sext : goal.returns-in-Sext
returns-in-Sext c =
    c.narrow.ensures ∙ ap (narrowed c.args.to) c.widen.ensures
    ∙ sign_extended c.args.from c.args.to c.args.number c.requires.some c.requires.within c.requires.most c.requires.below
    ∙ ap (λ (o : CastOp). cast_number o c.args.from c.args.to c.args.number) (sym c.in-Sext.is)

pub returns-in-Trunc : goal.returns-in-Trunc
returns-in-Trunc c =
    c.narrow-in-Trunc.ensures ∙ ap (λ (o : CastOp). cast_number o c.args.from c.args.to c.args.number) (sym c.in-Trunc.is)
