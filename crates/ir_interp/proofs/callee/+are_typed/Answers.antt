use Rattle.ir_interp.proofs.Passing.{more_typed, fewer_typed, none_typed}
use Rattle.ir_interp.proofs.callee.+are_typed.Goals as goal

pub returns-in-len1-up-arguments : goal.returns-in-len1-up-arguments
returns-in-len1-up-arguments t c = more_typed c.args.params.now c.args.arguments.now c.in-empty.len_below c.in-len1-up-arguments.len_at_least

pub returns-in-empty-arguments-2 : goal.returns-in-empty-arguments-2
returns-in-empty-arguments-2 t c = fewer_typed c.args.params.now c.args.arguments.now c.in-len1-up.len_at_least c.in-empty-arguments-2.len_below

pub returns-in-empty-arguments : goal.returns-in-empty-arguments
returns-in-empty-arguments t c = none_typed c.args.params.now c.args.arguments.now c.in-empty.len_below c.in-empty-arguments.len_below
