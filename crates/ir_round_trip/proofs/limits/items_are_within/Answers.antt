use Rattle.ir_round_trip.proofs.WithinItems.{module_spelled}
use Rattle.ir_round_trip.proofs.limits.items_are_within.Goals as goal

pub returns : goal.returns
returns c = module_spelled
