use Rattle.ir_round_trip.proofs.Targets.{layout_read, triple_read}
use Rattle.ir_round_trip.proofs.parts.target_lines_are_read.Goals as goal

pub returns-clause-layout : goal.returns-clause-layout
returns-clause-layout c = layout_read

pub returns-clause-triple : goal.returns-clause-triple
returns-clause-triple c = triple_read
