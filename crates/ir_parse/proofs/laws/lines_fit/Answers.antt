use Rattle.ir_parse.proofs.Lined.{function_lined}
use Rattle.ir_parse.proofs.laws.lines_fit.Goals as goal

pub returns : goal.returns
returns c = function_lined
