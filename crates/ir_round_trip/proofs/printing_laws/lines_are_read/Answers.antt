use Rattle.ir_round_trip.proofs.Lines.{line_read}
use Rattle.ir_round_trip.proofs.printing_laws.lines_are_read.Goals as goal

pub returns : goal.returns
returns c = line_read
