use Rattle.ir_flow.proofs.Availability.{all-available}
use Rattle.ir_flow.proofs.laws.all_are_available.Goals as goal

pub returns : goal.returns
returns c = all-available
