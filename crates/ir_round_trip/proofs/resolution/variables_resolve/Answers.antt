use Rattle.ir_round_trip.proofs.ResolvedVariables.{variable_again}
use Rattle.ir_round_trip.proofs.resolution.variables_resolve.Goals as goal

pub returns : goal.returns
returns c = variable_again
