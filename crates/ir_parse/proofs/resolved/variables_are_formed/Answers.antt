use Rattle.ir_parse.proofs.ResolvedVariables.{variables_formed}
use Rattle.ir_parse.proofs.resolved.variables_are_formed.Goals as goal

pub returns : goal.returns
returns c = variables_formed
