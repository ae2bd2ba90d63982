use Rattle.std.proofs.Common.{ap, ◌∙◌}
use Rattle.ir_parse_names.specs.Variables.{part_in}
use Rattle.ir_parse_values.proofs.Following.{follows}
use Rattle.ir_parse_values.proofs.initialiser.part_in.Goals as goal

pub returns-in_ok-head-in-Typed : goal.returns-in_ok-head-in-Typed
returns-in_ok-head-in-Typed c = ap (part_in c.args.types.now c.args.locals.now) c.in-Typed.is ∙ follows _ c.in_ok-shape-in-Typed.ensures.given ∙ follows _ c.in_ok-head-in-Typed.ensures
