use Rattle.ir_round_trip.proofs.Cut.{tokens_cut}
use Rattle.ir_round_trip.proofs.limits.tokens_are_cut.Goals as goal

pub returns : goal.returns
returns c = tokens_cut
