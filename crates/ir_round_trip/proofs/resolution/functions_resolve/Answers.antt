use Rattle.ir_round_trip.proofs.PrintedFunctions.{definition_again, declaration_again}
use Rattle.ir_round_trip.proofs.resolution.functions_resolve.Goals as goal

pub returns-clause-definition : goal.returns-clause-definition
returns-clause-definition c = definition_again

pub returns-clause-declaration : goal.returns-clause-declaration
returns-clause-declaration c = declaration_again
