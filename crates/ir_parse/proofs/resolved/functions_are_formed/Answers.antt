use Rattle.ir_parse.proofs.Functions.{functions_formed}
use Rattle.ir_parse.proofs.resolved.functions_are_formed.Goals as goal

pub returns : goal.returns
returns c = functions_formed
