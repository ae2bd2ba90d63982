use Rattle.ir_round_trip.proofs.Terminators.{terminator_read}
use Rattle.ir_round_trip.proofs.parts.terminators_are_read.Goals as goal

pub returns : goal.returns
returns c = terminator_read
