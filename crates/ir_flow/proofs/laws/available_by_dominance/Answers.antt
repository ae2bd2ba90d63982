use Rattle.ir_flow.proofs.Availability.{available-dominated}
use Rattle.ir_flow.proofs.laws.available_by_dominance.Goals as goal

pub returns : goal.returns
returns c = available-dominated
