use Rattle.ir_parse_names.specs.KeyViews.{key}
use Rattle.ir_parse_names.proofs.Definitions.{follows}
use Rattle.ir_parse_names.proofs.locals.Locals.define_as.Goals as goal

pub push-requires-clause-next : goal.push-requires-clause-next
push-requires-clause-next c = follows _ (key c.args.wanted) c.requires
