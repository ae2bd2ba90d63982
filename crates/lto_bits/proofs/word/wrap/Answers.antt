use Rattle.std.proofs.Common.{◌∙◌, ◌%◌, ◌^◌, ap, w64, of_z}
use Rattle.std.proofs.lemmas.Int.{to_z-of_z}
use Rattle.lto_bits.proofs.Words.{wrapped_bits}
use Rattle.lto_bits.proofs.word.wrap.Goals as goal

pub returns : goal.returns
returns c =
    c.low_bits.ensures
    ∙ ap (λ n. n % 2 ^ c.args.w) c.cast_unsigned.ensures
    ∙ ap (λ z. of_z w64 z % 2 ^ c.args.w) (to_z-of_z w64 c.args.z c.ranges.z)
    ∙ wrapped_bits c.args.w c.args.z c.requires.within c.ranges.z
