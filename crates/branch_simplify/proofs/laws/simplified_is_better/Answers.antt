use Rattle.branch_simplify.proofs.Better.{is_better}
use Rattle.branch_simplify.proofs.laws.simplified_is_better.Goals as goal

pub returns : goal.returns
returns c = is_better
