use Rattle.ir_round_trip.proofs.Rooms.{memory_shape_read}
use Rattle.ir_round_trip.proofs.parts.shapes_are_read.Goals as goal

pub returns : goal.returns
returns c = memory_shape_read
