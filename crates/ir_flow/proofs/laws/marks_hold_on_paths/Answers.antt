use Rattle.ir_flow.proofs.Along.{marks-on-paths}
use Rattle.ir_flow.proofs.laws.marks_hold_on_paths.Goals as goal

pub returns : goal.returns
returns c = marks-on-paths
