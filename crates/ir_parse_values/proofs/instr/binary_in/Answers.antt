use Rattle.std.proofs.Common.{◌∙◌}
use Rattle.ir_parse_values.proofs.Following.{follows}
use Rattle.ir_parse_values.proofs.instr.binary_in.Goals as goal

pub returns : goal.returns
returns c = follows _ c.in_ok-left.ensures ∙ follows _ c.in_ok-right.ensures
