use Rattle.ir_flow.proofs.Availability.{one_greatest}
use Rattle.ir_flow.proofs.laws.one_greatest.Goals as goal

pub returns : goal.returns
returns c = one_greatest
