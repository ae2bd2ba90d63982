use Rattle.std.proofs.Common.{ℤ, pos, ◌^◌, ◌<◌, ap, sym, ◌∙◌, subst, w64, to_z, FitsSigned, mod-eq_of_lt, rules}
use Rattle.std.specs.Int.{int_wrapping_add}
use Rattle.lto_bits.specs.Word.{wrapped}
use Rattle.ir_meaning.proofs.Wraps.{signed_wraps, sum_is, sum_left}
use Rattle.ir_machine.proofs.part.added.Goals as goal

pub returns : goal.returns
returns c =
    let low : c.args.offset < 2 ^ 64 = search rules in
    let fits : FitsSigned w64 c.cast_signed.result = record { sfits = c.cast_signed.type_inv } in
    ap (λ (z : ℤ). wrapped 64 (int_wrapping_add w64 z c.args.by)) c.cast_signed.ensures
    ∙ sum_is (to_z w64 c.args.offset) c.args.by (subst (FitsSigned w64) c.cast_signed.ensures fits) c.ranges.by
    ∙ sum_left (to_z w64 c.args.offset) (pos c.args.offset) c.args.by (signed_wraps c.args.offset low ∙ sym (mod-eq_of_lt low))
