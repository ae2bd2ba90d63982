use Rattle.std.proofs.Common.{ℤ, ap, ◌∙◌, sym, subst, ◌*ℤ◌, w64, FitsSigned}
use Rattle.lto_bits.specs.Word.{wrapped}
use Rattle.ir_meaning.proofs.Wraps.{product_is, small_fits, small_is}
use Rattle.ir_machine.proofs.part.times.Goals as goal

pub returns : goal.returns
returns c =
    let is = c.cast_signed.ensures ∙ small_is c.args.bytes c.requires.most in
    let fits = subst (FitsSigned w64) (sym is) (small_fits c.args.bytes c.requires.most) in
    product_is c.args.count c.cast_signed.result c.ranges.count fits ∙ ap (λ (z : ℤ). wrapped 64 (c.args.count *ℤ z)) is
