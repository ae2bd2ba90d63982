use Rattle.ir_facts.proofs.OneFunction.{is_one}
use Rattle.ir_facts.proofs.laws.applied_is_one.Goals as goal

pub returns : goal.returns
returns c = is_one
