use Rattle.std.proofs.Common.{◌∙◌, ◌<◌, arith}
use Rattle.std.proofs.lemmas.Bool.{lt-ltb}
use Rattle.lto_bits.specs.Operation.{arithmetic}
use Rattle.lto_bits.proofs.Choices.{same_answers, and_before}
use Rattle.lto_bits.proofs.Words.{wrapped_twice}
use Rattle.lto_bits.proofs.shift.shl.Goals as goal

pub returns : goal.returns
unfolding arithmetic
returns c =
    let within : c.args.b < c.args.w = omega (arith, c.if-b-from.false, c.from.ensures) in
    c.value_if.ensures
    ∙ same_answers _ _ _ _ _ _ (and_before _ _ _ (lt-ltb c.args.b c.args.w within) c.shift_fits_unsigned-unsigned.ensures) c.shift_fits_signed-signed.ensures
    (c.low_bits.ensures ∙ wrapped_twice _ c.args.w c.requires.within)
