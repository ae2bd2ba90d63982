use Rattle.std.proofs.Common.{◌∙◌, ap, not}
use Rattle.lto_bits.specs.Word.{signed, fits_signed}
use Rattle.lto_bits.proofs.Choices.{or_second}
use Rattle.lto_bits.proofs.Words.{converted, signed_fits, difference_in_128}
use Rattle.lto_bits.proofs.arithmetic.difference_fits_signed.Goals as goal

pub returns-else-not-flags : goal.returns-else-not-flags
returns-else-not-flags c =
    let left = signed_fits c.args.w c.args.a c.requires.some c.requires.within c.requires.left in
    let right = signed_fits c.args.w c.args.b c.requires.some c.requires.within c.requires.right in
    or_second (not c.args.flags.nsw) _ _ c.if-not-flags.false
    (c.fits_signed.ensures
    ∙ ap (λ z. fits_signed c.args.w z)
    (difference_in_128 _ _ _ _ left right
    (converted _ _ (signed c.args.w c.args.a) left c.from.ensures c.signed.ensures)
    (converted _ _ (signed c.args.w c.args.b) right c.from-else-not-flags.ensures c.signed-else-not-flags.ensures)))
