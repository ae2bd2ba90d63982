use Rattle.std.proofs.Common.{refl, ◌∙◌}
use Rattle.ir_parse_bodies.proofs.BehindCommas.{selecting_is}
use Rattle.ir_parse_bodies.proofs.Successions.{fails_as, fails_behind, passed_on, reads_behind}
use Rattle.ir_parse_operands.proofs.Additions.{first_fails, pushed_returns}
use Rattle.ir_parse_bodies.proofs.instructions.selecting_into.Goals as goal

pub returns : goal.returns
returns c = pushed_returns _ _ _ _ _ _ c.put.ensures.put c.put.ensures.memory (reads_behind (selecting_is _ ∙ reads_behind c.in_ok-width.ensures.exact _ (reads_behind c.in_ok-condition.ensures _ (reads_behind c.in_ok-if_true.ensures _ (reads_behind c.in_ok-if_false.ensures _ refl)))) _ refl)

pub returns-in_err-width : goal.returns-in_err-width
returns-in_err-width c = passed_on _ _ _ _ c.from_residual.ensures (first_fails _ _ _ (fails_as (selecting_is _) _ (first_fails _ _ _ c.in_err-width.ensures.exact)))

pub returns-in_err-condition : goal.returns-in_err-condition
returns-in_err-condition c = passed_on _ _ _ _ c.from_residual-in_err-condition.ensures (first_fails _ _ _ (fails_as (selecting_is _) _ (fails_behind c.in_ok-width.ensures.exact _ _ (first_fails _ _ _ c.in_err-condition.ensures))))

pub returns-in_err-if_true : goal.returns-in_err-if_true
returns-in_err-if_true c = passed_on _ _ _ _ c.from_residual-in_err-if_true.ensures (first_fails _ _ _ (fails_as (selecting_is _) _ (fails_behind c.in_ok-width.ensures.exact _ _ (fails_behind c.in_ok-condition.ensures _ _ (first_fails _ _ _ c.in_err-if_true.ensures)))))

pub returns-in_err-if_false : goal.returns-in_err-if_false
returns-in_err-if_false c = passed_on _ _ _ _ c.from_residual-in_err-if_false.ensures (first_fails _ _ _ (fails_as (selecting_is _) _ (fails_behind c.in_ok-width.ensures.exact _ _ (fails_behind c.in_ok-condition.ensures _ _ (fails_behind c.in_ok-if_true.ensures _ _ (first_fails _ _ _ c.in_err-if_false.ensures))))))
