use Rattle.std.proofs.Common.{refl}
use Rattle.ir_parse_bodies.specs.CallsAt.{called_value_at}
use Rattle.ir_parse_bodies.proofs.Successions.{passed_on, reads_behind}
use Rattle.ir_parse_operands.proofs.Additions.{first_fails}
use Rattle.ir_parse_operands.proofs.Levels.{given}
use Rattle.ir_parse_bodies.proofs.calls.called_value_at.Goals as goal

pub returns : goal.returns
unfolding called_value_at
returns c = given _ _ _ _ c.done.ensures (reads_behind c.in_ok-value.ensures _ refl)

pub returns-in_err-value : goal.returns-in_err-value
unfolding called_value_at
returns-in_err-value c = passed_on _ _ _ _ c.from_residual.ensures (first_fails _ _ _ c.in_err-value.ensures)
