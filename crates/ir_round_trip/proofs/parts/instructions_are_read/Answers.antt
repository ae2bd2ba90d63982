use Rattle.ir_round_trip.proofs.Whole.{instruction_read}
use Rattle.ir_round_trip.proofs.parts.instructions_are_read.Goals as goal

pub returns : goal.returns
returns c = instruction_read
