use Rattle.ir_round_trip.proofs.Labels.{label_read}
use Rattle.ir_round_trip.proofs.PrintedNames.{local_read, target_read}
use Rattle.ir_round_trip.proofs.parts.names_are_read.Goals as goal

pub returns-clause-local : goal.returns-clause-local
returns-clause-local c = local_read

pub returns-clause-target : goal.returns-clause-target
returns-clause-target c = target_read

pub returns-clause-label : goal.returns-clause-label
returns-clause-label c = label_read
