use Rattle.ir_round_trip.proofs.PrintedInitialisers.{initialiser_read}
use Rattle.ir_round_trip.proofs.PrintedVariables.{variable_read}
use Rattle.ir_round_trip.proofs.printing_laws.variables_are_read.Goals as goal

pub returns-clause-initialiser : goal.returns-clause-initialiser
returns-clause-initialiser c = initialiser_read

pub returns-clause-variable : goal.returns-clause-variable
returns-clause-variable c = variable_read
