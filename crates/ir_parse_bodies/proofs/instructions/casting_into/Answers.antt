use Rattle.std.proofs.Common.{refl}
use Rattle.ir_parse_bodies.specs.InstructionsAt.{casting_at}
use Rattle.ir_parse_bodies.proofs.Successions.{fails_behind, passed_on, reads_behind}
use Rattle.ir_parse_operands.proofs.Additions.{first_fails, pushed_returns}
use Rattle.ir_parse_bodies.proofs.instructions.casting_into.Goals as goal

pub returns : goal.returns
unfolding casting_at
returns c = pushed_returns _ _ _ _ _ _ c.put.ensures.put c.put.ensures.memory (reads_behind (reads_behind c.in_ok-from.ensures.exact _ (reads_behind c.in_ok-value.ensures _ (reads_behind c.in_ok-expect.ensures _ (reads_behind c.in_ok-to.ensures.exact _ refl)))) _ refl)

pub returns-in_err-from : goal.returns-in_err-from
unfolding casting_at
returns-in_err-from c = passed_on _ _ _ _ c.from_residual.ensures (first_fails _ _ _ (first_fails _ _ _ c.in_err-from.ensures.exact))

pub returns-in_err-value : goal.returns-in_err-value
unfolding casting_at
returns-in_err-value c = passed_on _ _ _ _ c.from_residual-in_err-value.ensures (first_fails _ _ _ (fails_behind c.in_ok-from.ensures.exact _ _ (first_fails _ _ _ c.in_err-value.ensures)))

pub returns-in_err-expect : goal.returns-in_err-expect
unfolding casting_at
returns-in_err-expect c = passed_on _ _ _ _ c.from_residual-in_err-expect.ensures (first_fails _ _ _ (fails_behind c.in_ok-from.ensures.exact _ _ (fails_behind c.in_ok-value.ensures _ _ (first_fails _ _ _ c.in_err-expect.ensures))))

pub returns-in_err-to : goal.returns-in_err-to
unfolding casting_at
returns-in_err-to c = passed_on _ _ _ _ c.from_residual-in_err-to.ensures (first_fails _ _ _ (fails_behind c.in_ok-from.ensures.exact _ _ (fails_behind c.in_ok-value.ensures _ _ (fails_behind c.in_ok-expect.ensures _ _ (first_fails _ _ _ c.in_err-to.ensures.exact)))))
