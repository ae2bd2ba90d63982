use Rattle.ir_round_trip.proofs.PartsModules.{module_cut, function_cut, variable_cut}
use Rattle.ir_round_trip.proofs.cutting.text_is_cut_into_its_tokens.Goals as goal

pub returns-clause-module : goal.returns-clause-module
returns-clause-module c = module_cut

pub returns-clause-function : goal.returns-clause-function
returns-clause-function c = function_cut

pub returns-clause-variable : goal.returns-clause-variable
returns-clause-variable c = variable_cut
