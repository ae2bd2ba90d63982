use Rattle.std.proofs.Common.{refl, ◌∙◌}
use Rattle.ir_parse_bodies.proofs.Grouping.{pushed_defined}
use Rattle.ir_parse_bodies.proofs.Successions.{fails_as, passed_on, reads_behind}
use Rattle.ir_parse_operands.proofs.Additions.{first_fails, pushed_returns}
use Rattle.ir_parse_bodies.proofs.definitions.defined_into.Goals as goal

pub returns : goal.returns
returns c = pushed_returns _ _ _ _ _ _ c.push_item.ensures.pushed c.push_item.ensures.memory (pushed_defined c.args.items.now.items c.args.head c.args.tokens.now ∙ reads_behind c.in_ok-blocks.ensures _ refl)

pub returns-in_err-blocks : goal.returns-in_err-blocks
returns-in_err-blocks c = passed_on _ _ _ _ c.from_residual.ensures (fails_as (pushed_defined c.args.items.now.items c.args.head c.args.tokens.now) _ (first_fails _ _ _ c.in_err-blocks.ensures))
