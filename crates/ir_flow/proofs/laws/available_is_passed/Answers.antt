use Rattle.ir_flow.proofs.Availability.{available-passed}
use Rattle.ir_flow.proofs.laws.available_is_passed.Goals as goal

pub returns : goal.returns
returns c = available-passed
