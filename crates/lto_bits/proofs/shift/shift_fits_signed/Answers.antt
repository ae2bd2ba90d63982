use Rattle.std.proofs.Common.{◌≡◌, ◌∙◌, ◌<◌, ◌^◌, ◌*ℤ◌, ◌||◌, ap, arith, pos, sym, w64}
use Rattle.std.specs.Prelude.{FitsSigned}
use Rattle.lto_bits.specs.Word.{fits_signed, signed}
use Rattle.lto_bits.proofs.Words.{converted, shifted_in_128, shifted_within, signed_fits}
use Rattle.lto_bits.proofs.shift.shift_fits_signed.Goals as goal

pub overflow_mul-from : goal.overflow_mul-from
overflow_mul-from c =
    let fits : FitsSigned w64 (signed c.args.w c.args.a) = signed_fits c.args.w c.args.a c.requires.some c.requires.within c.requires.left in
    let few : c.args.b < 64 = omega (arith, c.requires.shift, c.requires.within) in
    shifted_within _ _ (signed c.args.w c.args.a) c.args.b fits few (converted _ _ _ fits c.from.ensures c.signed.ensures) c.from-else-not-flags.ensures

pub returns-else-not-flags : goal.returns-else-not-flags
returns-else-not-flags c =
    let fits : FitsSigned w64 (signed c.args.w c.args.a) = signed_fits c.args.w c.args.a c.requires.some c.requires.within c.requires.left in
    let few : c.args.b < 64 = omega (arith, c.requires.shift, c.requires.within) in
    let allowed = fits_signed c.args.w (signed c.args.w c.args.a *ℤ pos (2 ^ c.args.b)) in
    c.fits_signed.ensures
    ∙ ap (fits_signed c.args.w) (shifted_in_128 _ _ (signed c.args.w c.args.a) c.args.b fits few (converted _ _ _ fits c.from.ensures c.signed.ensures) c.from-else-not-flags.ensures)
    ∙ sym (ap (λ free. free || allowed) c.if-not-flags.false)
