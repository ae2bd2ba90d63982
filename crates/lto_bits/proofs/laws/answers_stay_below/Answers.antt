use Rattle.lto_bits.proofs.Below.{binary_below}
use Rattle.lto_bits.proofs.laws.answers_stay_below.Goals as goal

pub returns : goal.returns
returns c = binary_below
