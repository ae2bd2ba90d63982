use Rattle.ir_flow.proofs.Along.{marks-from-entry}
use Rattle.ir_flow.proofs.laws.marks_hold_from_entry.Goals as goal

pub returns : goal.returns
returns c = marks-from-entry
