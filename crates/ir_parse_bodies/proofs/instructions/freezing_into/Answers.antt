use Rattle.std.proofs.Common.{refl}
use Rattle.ir_parse_bodies.specs.InstructionsAt.{freezing_at}
use Rattle.ir_parse_bodies.proofs.Successions.{fails_behind, passed_on, reads_behind}
use Rattle.ir_parse_operands.proofs.Additions.{first_fails, pushed_returns}
use Rattle.ir_parse_bodies.proofs.instructions.freezing_into.Goals as goal

pub returns : goal.returns
unfolding freezing_at
returns c = pushed_returns _ _ _ _ _ _ c.put.ensures.put c.put.ensures.memory (reads_behind (reads_behind c.in_ok-reg.ensures.exact _ (reads_behind c.in_ok-value.ensures _ refl)) _ refl)

pub returns-in_err-reg : goal.returns-in_err-reg
unfolding freezing_at
returns-in_err-reg c = passed_on _ _ _ _ c.from_residual.ensures (first_fails _ _ _ (first_fails _ _ _ c.in_err-reg.ensures.exact))

pub returns-in_err-value : goal.returns-in_err-value
unfolding freezing_at
returns-in_err-value c = passed_on _ _ _ _ c.from_residual-in_err-value.ensures (first_fails _ _ _ (fails_behind c.in_ok-reg.ensures.exact _ _ (first_fails _ _ _ c.in_err-value.ensures)))
