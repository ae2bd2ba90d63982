use Rattle.ir_parse_bodies.proofs.Grouping.{pushed_definition}
use Rattle.ir_parse_bodies.proofs.Successions.{fails_as, passed_on, returns_as, returns_behind}
use Rattle.ir_parse_operands.proofs.Additions.{first_fails}
use Rattle.ir_parse_bodies.proofs.definitions.definition_into.Goals as goal

pub returns : goal.returns
returns c = returns_as (pushed_definition c.args.items.now.items c.args.room c.args.tokens.now) _ _ (returns_behind c.in_ok-head.ensures _ _ _ c.defined_into.ensures)

pub returns-in_err-head : goal.returns-in_err-head
returns-in_err-head c = passed_on _ _ _ _ c.from_residual.ensures (fails_as (pushed_definition c.args.items.now.items c.args.room c.args.tokens.now) _ (first_fails _ _ _ c.in_err-head.ensures))
