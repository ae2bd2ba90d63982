use Rattle.std.proofs.Common.{refl}
use Rattle.ir_parse_bodies.specs.PhisAt.{incoming_at}
use Rattle.ir_parse_bodies.proofs.Successions.{fails_behind, passed_on, reads_behind}
use Rattle.ir_parse_operands.proofs.Additions.{first_fails}
use Rattle.ir_parse_operands.proofs.Levels.{given}
use Rattle.ir_parse_bodies.proofs.phis.incoming_at.Goals as goal

pub returns : goal.returns
unfolding incoming_at
returns c = given _ _ _ _ c.done.ensures (reads_behind c.in_ok-expect.ensures _ (reads_behind c.in_ok-value.ensures _ (reads_behind c.in_ok-expect-2.ensures _ (reads_behind c.in_ok-from.ensures _ (reads_behind c.in_ok-expect-3.ensures _ refl)))))

pub returns-in_err-expect : goal.returns-in_err-expect
unfolding incoming_at
returns-in_err-expect c = passed_on _ _ _ _ c.from_residual.ensures (first_fails _ _ _ c.in_err-expect.ensures)

pub returns-in_err-value : goal.returns-in_err-value
unfolding incoming_at
returns-in_err-value c = passed_on _ _ _ _ c.from_residual-in_err-value.ensures (fails_behind c.in_ok-expect.ensures _ _ (first_fails _ _ _ c.in_err-value.ensures))

pub returns-in_err-expect-2 : goal.returns-in_err-expect-2
unfolding incoming_at
returns-in_err-expect-2 c = passed_on _ _ _ _ c.from_residual-in_err-expect-2.ensures (fails_behind c.in_ok-expect.ensures _ _ (fails_behind c.in_ok-value.ensures _ _ (first_fails _ _ _ c.in_err-expect-2.ensures)))

pub returns-in_err-from : goal.returns-in_err-from
unfolding incoming_at
returns-in_err-from c = passed_on _ _ _ _ c.from_residual-in_err-from.ensures (fails_behind c.in_ok-expect.ensures _ _ (fails_behind c.in_ok-value.ensures _ _ (fails_behind c.in_ok-expect-2.ensures _ _ (first_fails _ _ _ c.in_err-from.ensures))))

pub returns-in_err-expect-3 : goal.returns-in_err-expect-3
unfolding incoming_at
returns-in_err-expect-3 c = passed_on _ _ _ _ c.from_residual-in_err-expect-3.ensures (fails_behind c.in_ok-expect.ensures _ _ (fails_behind c.in_ok-value.ensures _ _ (fails_behind c.in_ok-expect-2.ensures _ _ (fails_behind c.in_ok-from.ensures _ _ (first_fails _ _ _ c.in_err-expect-3.ensures)))))
