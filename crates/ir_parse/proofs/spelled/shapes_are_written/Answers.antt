use Rattle.ir_parse.proofs.Written.{shapes}
use Rattle.ir_parse.proofs.spelled.shapes_are_written.Goals as goal

pub returns : goal.returns
returns c = shapes
