use Rattle.std.proofs.Common.{refl}
use Rattle.ir_parse_bodies.specs.CallsAt.{calling_at}
use Rattle.ir_parse_bodies.proofs.Successions.{fails_behind, passed_on, reads_behind, returns_within, within}
use Rattle.ir_parse_operands.proofs.Additions.{first_fails}
use Rattle.ir_parse_bodies.proofs.calls.calling_into.Goals as goal

pub returns : goal.returns
unfolding calling_at
returns c = returns_within (within (reads_behind c.in_ok-conventions_at.ensures _ (reads_behind c.in_ok-result.ensures.exact _ refl)) _) _ _ _ c.calling_of_into.ensures

pub returns-in_err-conventions_at : goal.returns-in_err-conventions_at
unfolding calling_at
returns-in_err-conventions_at c = passed_on _ _ _ _ c.from_residual.ensures (first_fails _ _ _ (first_fails _ _ _ (first_fails _ _ _ c.in_err-conventions_at.ensures)))

pub returns-in_err-result : goal.returns-in_err-result
unfolding calling_at
returns-in_err-result c = passed_on _ _ _ _ c.from_residual-in_err-result.ensures (first_fails _ _ _ (first_fails _ _ _ (fails_behind c.in_ok-conventions_at.ensures _ _ (first_fails _ _ _ c.in_err-result.ensures.exact))))
