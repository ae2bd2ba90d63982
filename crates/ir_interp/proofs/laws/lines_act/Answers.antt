use Rattle.ir_interp.proofs.LineActs.{acted}
use Rattle.ir_interp.proofs.laws.lines_act.Goals as goal

pub returns : goal.returns
returns c = acted
