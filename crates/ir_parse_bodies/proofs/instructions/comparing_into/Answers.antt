use Rattle.std.proofs.Common.{refl, ◌∙◌}
use Rattle.ir_parse_bodies.proofs.BehindCommas.{comparing_is}
use Rattle.ir_parse_bodies.proofs.Successions.{fails_as, fails_behind, passed_on, reads_behind}
use Rattle.ir_parse_operands.proofs.Additions.{first_fails, pushed_returns}
use Rattle.ir_parse_bodies.proofs.instructions.comparing_into.Goals as goal

pub returns : goal.returns
returns c = pushed_returns _ _ _ _ _ _ c.put.ensures.put c.put.ensures.memory (reads_behind (comparing_is _ ∙ reads_behind c.in_ok-maybe_at.ensures _ (reads_behind c.in_ok-predicate.ensures _ (reads_behind c.in_ok-reg.ensures.exact _ (reads_behind c.in_ok-left.ensures _ (reads_behind c.in_ok-right.ensures _ refl))))) _ refl)

pub returns-in_err-maybe_at : goal.returns-in_err-maybe_at
returns-in_err-maybe_at c = passed_on _ _ _ _ c.from_residual.ensures (first_fails _ _ _ (fails_as (comparing_is _) _ (first_fails _ _ _ c.in_err-maybe_at.ensures)))

pub returns-in_err-predicate : goal.returns-in_err-predicate
returns-in_err-predicate c = passed_on _ _ _ _ c.from_residual-in_err-predicate.ensures (first_fails _ _ _ (fails_as (comparing_is _) _ (fails_behind c.in_ok-maybe_at.ensures _ _ (first_fails _ _ _ c.in_err-predicate.ensures))))

pub returns-in_err-reg : goal.returns-in_err-reg
returns-in_err-reg c = passed_on _ _ _ _ c.from_residual-in_err-reg.ensures (first_fails _ _ _ (fails_as (comparing_is _) _ (fails_behind c.in_ok-maybe_at.ensures _ _ (fails_behind c.in_ok-predicate.ensures _ _ (first_fails _ _ _ c.in_err-reg.ensures.exact)))))

pub returns-in_err-left : goal.returns-in_err-left
returns-in_err-left c = passed_on _ _ _ _ c.from_residual-in_err-left.ensures (first_fails _ _ _ (fails_as (comparing_is _) _ (fails_behind c.in_ok-maybe_at.ensures _ _ (fails_behind c.in_ok-predicate.ensures _ _ (fails_behind c.in_ok-reg.ensures.exact _ _ (first_fails _ _ _ c.in_err-left.ensures))))))

pub returns-in_err-right : goal.returns-in_err-right
returns-in_err-right c = passed_on _ _ _ _ c.from_residual-in_err-right.ensures (first_fails _ _ _ (fails_as (comparing_is _) _ (fails_behind c.in_ok-maybe_at.ensures _ _ (fails_behind c.in_ok-predicate.ensures _ _ (fails_behind c.in_ok-reg.ensures.exact _ _ (fails_behind c.in_ok-left.ensures _ _ (first_fails _ _ _ c.in_err-right.ensures)))))))
