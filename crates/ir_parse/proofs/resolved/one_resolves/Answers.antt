use Rattle.ir_parse.proofs.Examples.{one_resolves}
use Rattle.ir_parse.proofs.resolved.one_resolves.Goals as goal

pub returns : goal.returns
returns c = one_resolves
