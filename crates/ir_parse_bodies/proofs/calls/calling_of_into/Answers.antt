use Rattle.std.proofs.Common.{refl}
use Rattle.ir_parse_bodies.proofs.Successions.{fails_behind, passed_on, reads_behind, returns_within, within}
use Rattle.ir_parse_operands.proofs.Additions.{first_fails}
use Rattle.ir_parse_bodies.proofs.calls.calling_of_into.Goals as goal

pub returns : goal.returns
returns c = returns_within (within (reads_behind c.in_ok-types.ensures _ (reads_behind c.in_ok-callee.ensures _ (reads_behind c.in_ok-expect.ensures _ (reads_behind c.in_ok-arguments.ensures _ refl)))) _) _ _ _ c.called_into.ensures

pub returns-in_err-types : goal.returns-in_err-types
returns-in_err-types c = passed_on _ _ _ _ c.from_residual.ensures (first_fails _ _ _ (first_fails _ _ _ (first_fails _ _ _ c.in_err-types.ensures)))

pub returns-in_err-callee : goal.returns-in_err-callee
returns-in_err-callee c = passed_on _ _ _ _ c.from_residual-in_err-callee.ensures (first_fails _ _ _ (first_fails _ _ _ (fails_behind c.in_ok-types.ensures _ _ (first_fails _ _ _ c.in_err-callee.ensures))))

pub returns-in_err-expect : goal.returns-in_err-expect
returns-in_err-expect c = passed_on _ _ _ _ c.from_residual-in_err-expect.ensures (first_fails _ _ _ (first_fails _ _ _ (fails_behind c.in_ok-types.ensures _ _ (fails_behind c.in_ok-callee.ensures _ _ (first_fails _ _ _ c.in_err-expect.ensures)))))

pub returns-in_err-arguments : goal.returns-in_err-arguments
returns-in_err-arguments c = passed_on _ _ _ _ c.from_residual-in_err-arguments.ensures (first_fails _ _ _ (first_fails _ _ _ (fails_behind c.in_ok-types.ensures _ _ (fails_behind c.in_ok-callee.ensures _ _ (fails_behind c.in_ok-expect.ensures _ _ (first_fails _ _ _ c.in_err-arguments.ensures))))))
