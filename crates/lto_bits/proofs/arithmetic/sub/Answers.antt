use Rattle.std.proofs.Common.{◌∙◌, refl}
use Rattle.lto_bits.specs.Operation.{arithmetic}
use Rattle.lto_bits.proofs.Choices.{same_answers}
use Rattle.lto_bits.proofs.Words.{difference_mod}
use Rattle.lto_bits.proofs.arithmetic.sub.Goals as goal

pub returns : goal.returns
unfolding arithmetic
returns c =
    c.value_if.ensures
    ∙ same_answers _ _ _ _ _ _ refl c.difference_fits_signed-signed.ensures
    (c.low_bits.ensures ∙ difference_mod c.args.a c.args.b c.args.w c.requires.within c.requires.right)
