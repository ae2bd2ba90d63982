use Rattle.std.proofs.Common.{◌∙◌}
use Rattle.lto_bits.specs.Operation.{arithmetic}
use Rattle.lto_bits.proofs.Choices.{same_answers}
use Rattle.lto_bits.proofs.Words.{wrapped_twice}
use Rattle.lto_bits.proofs.arithmetic.mul.Goals as goal

pub returns : goal.returns
unfolding arithmetic
returns c =
    c.value_if.ensures
    ∙ same_answers _ _ _ _ _ _ c.product_fits_unsigned-unsigned.ensures c.product_fits_signed-signed.ensures
    (c.low_bits.ensures ∙ wrapped_twice _ c.args.w c.requires.within)
