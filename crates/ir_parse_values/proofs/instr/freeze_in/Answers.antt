use Rattle.ir_parse_values.proofs.Following.{follows}
use Rattle.ir_parse_values.proofs.instr.freeze_in.Goals as goal

pub returns : goal.returns
returns c = follows _ c.in_ok-value.ensures
