use Rattle.ir_parse.proofs.Functions.{definitions_apart}
use Rattle.ir_parse.proofs.resolved.definitions_differ.Goals as goal

pub returns : goal.returns
returns c = definitions_apart
