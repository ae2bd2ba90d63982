use Rattle.std.proofs.Common.{ap, ◌∙◌}
use Rattle.ir_parse_names.specs.Variables.{init_if}
use Rattle.ir_parse_values.proofs.Following.{follows}
use Rattle.ir_parse_values.proofs.variable.init_if.Goals as goal

pub returns-in_ok-made-in-Some : goal.returns-in_ok-made-in-Some
returns-in_ok-made-in-Some c = ap (init_if c.args.types.now c.args.shape.now) c.in-Some.is ∙ follows _ c.in_ok-made-in-Some.ensures
