use Rattle.std.proofs.Common.{refl, ◌∙◌}
use Rattle.ir_parse_bodies.proofs.BehindCommas.{loading_is}
use Rattle.ir_parse_bodies.proofs.Successions.{fails_as, fails_behind, passed_on, reads_behind}
use Rattle.ir_parse_operands.proofs.Additions.{first_fails, pushed_returns}
use Rattle.ir_parse_bodies.proofs.instructions.loading_into.Goals as goal

pub returns : goal.returns
returns c = pushed_returns _ _ _ _ _ _ c.put.ensures.put c.put.ensures.memory (reads_behind (loading_is _ ∙ reads_behind c.in_ok-reg.ensures.exact _ (reads_behind c.in_ok-address.ensures _ (reads_behind c.in_ok-align.ensures _ refl))) _ refl)

pub returns-in_err-reg : goal.returns-in_err-reg
returns-in_err-reg c = passed_on _ _ _ _ c.from_residual.ensures (first_fails _ _ _ (fails_as (loading_is _) _ (first_fails _ _ _ c.in_err-reg.ensures.exact)))

pub returns-in_err-address : goal.returns-in_err-address
returns-in_err-address c = passed_on _ _ _ _ c.from_residual-in_err-address.ensures (first_fails _ _ _ (fails_as (loading_is _) _ (fails_behind c.in_ok-reg.ensures.exact _ _ (first_fails _ _ _ c.in_err-address.ensures))))

pub returns-in_err-align : goal.returns-in_err-align
returns-in_err-align c = passed_on _ _ _ _ c.from_residual-in_err-align.ensures (first_fails _ _ _ (fails_as (loading_is _) _ (fails_behind c.in_ok-reg.ensures.exact _ _ (fails_behind c.in_ok-address.ensures _ _ (first_fails _ _ _ c.in_err-align.ensures)))))
