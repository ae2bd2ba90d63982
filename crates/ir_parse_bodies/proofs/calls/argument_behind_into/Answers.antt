use Rattle.std.proofs.Common.{refl}
use Rattle.ir_parse_bodies.specs.CallsAt.{argument_behind_at}
use Rattle.ir_parse_bodies.proofs.Successions.{fails_behind, passed_on, reads_behind}
use Rattle.ir_parse_operands.proofs.Additions.{first_fails, pushed_returns}
use Rattle.ir_parse_bodies.proofs.calls.argument_behind_into.Goals as goal

pub returns : goal.returns
unfolding argument_behind_at
returns c = pushed_returns _ _ _ _ _ _ c.push.ensures.pushed c.push.ensures.memory (reads_behind (reads_behind c.in_ok-parameter_attributes_at.ensures _ (reads_behind c.in_ok-operand.ensures _ refl)) _ refl)

pub returns-in_err-parameter_attributes_at : goal.returns-in_err-parameter_attributes_at
unfolding argument_behind_at
returns-in_err-parameter_attributes_at c = passed_on _ _ _ _ c.from_residual.ensures (first_fails _ _ _ (first_fails _ _ _ c.in_err-parameter_attributes_at.ensures))

pub returns-in_err-operand : goal.returns-in_err-operand
unfolding argument_behind_at
returns-in_err-operand c = passed_on _ _ _ _ c.from_residual-in_err-operand.ensures (first_fails _ _ _ (fails_behind c.in_ok-parameter_attributes_at.ensures _ _ (first_fails _ _ _ c.in_err-operand.ensures)))
