use Rattle.ir_round_trip.proofs.PrintedModules.{module_read, text_read}
use Rattle.ir_round_trip.proofs.printing_laws.modules_are_read.Goals as goal

pub returns-clause-tokens : goal.returns-clause-tokens
returns-clause-tokens c = module_read

pub returns-clause-text : goal.returns-clause-text
returns-clause-text c = text_read
