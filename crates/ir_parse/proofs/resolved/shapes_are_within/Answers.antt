use Rattle.ir_parse.proofs.ResolvedShapes.{shapes_within}
use Rattle.ir_parse.proofs.resolved.shapes_are_within.Goals as goal

pub returns : goal.returns
returns c = shapes_within
