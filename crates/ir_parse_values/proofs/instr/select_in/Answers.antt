use Rattle.std.proofs.Common.{◌∙◌}
use Rattle.ir_parse_values.proofs.Following.{follows}
use Rattle.ir_parse_values.proofs.instr.select_in.Goals as goal

pub returns : goal.returns
returns c = follows _ c.in_ok-condition.ensures ∙ follows _ c.in_ok-if_true.ensures ∙ follows _ c.in_ok-if_false.ensures
