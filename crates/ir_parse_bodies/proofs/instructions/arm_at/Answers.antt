use Rattle.ir_parse_bodies.specs.InstructionsAt.{arm_at}
use Rattle.ir_parse_bodies.proofs.Successions.{passed_on, returns_behind}
use Rattle.ir_parse_operands.proofs.Additions.{first_fails}
use Rattle.ir_parse_bodies.proofs.instructions.arm_at.Goals as goal

pub returns : goal.returns
unfolding arm_at
returns c = returns_behind c.in_ok-expect.ensures _ _ _ c.argument_at.ensures

pub returns-in_err-expect : goal.returns-in_err-expect
unfolding arm_at
returns-in_err-expect c = passed_on _ _ _ _ c.from_residual.ensures (first_fails _ _ _ c.in_err-expect.ensures)
