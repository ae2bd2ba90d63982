use Rattle.ir_parse.proofs.Types.{types_are}
use Rattle.ir_parse.proofs.spelled.types_are_written.Goals as goal

pub returns : goal.returns
returns c = types_are
