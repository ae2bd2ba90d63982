use Rattle.std.proofs.Common.{◌∙◌, ap}
use Rattle.std.specs.Prelude.{bit_and}
use Rattle.std.proofs.lemmas.Nat.{and_mask}
use Rattle.lto_bits.proofs.word.low_bits.Goals as goal

pub returns : goal.returns
returns c = ap (λ m. bit_and c.args.x m) c.greatest.ensures ∙ and_mask c.args.x c.args.w
