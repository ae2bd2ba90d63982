use Rattle.std.proofs.Common.{Ok, ap, sym}
use Rattle.ir_parse_parts.specs.declared.raw.FunctionHeader.{FunctionHeader}
use Rattle.ir_parse_bodies.proofs.Successions.{fails_behind, passed_on, reads_behind}
use Rattle.ir_parse_operands.proofs.Additions.{first_fails}
use Rattle.ir_parse_operands.proofs.Levels.{given}
use Rattle.ir_parse_bodies.proofs.definitions.heading_at.Goals as goal

pub returns : goal.returns
returns c = given _ _ _ _ c.done.ensures (reads_behind c.in_ok-expect.ensures _ (reads_behind c.in_ok-head.ensures _ (reads_behind c.in_ok-kept.ensures _ (ap (λ (x : FunctionHeader). Ok (x, c.definition_attributes_at.new.tokens)) (sym c.with_kept.ensures)))))

pub returns-in_err-expect : goal.returns-in_err-expect
returns-in_err-expect c = passed_on _ _ _ _ c.from_residual.ensures (first_fails _ _ _ c.in_err-expect.ensures)

pub returns-in_err-head : goal.returns-in_err-head
returns-in_err-head c = passed_on _ _ _ _ c.from_residual-in_err-head.ensures (fails_behind c.in_ok-expect.ensures _ _ (first_fails _ _ _ c.in_err-head.ensures))

pub returns-in_err-kept : goal.returns-in_err-kept
returns-in_err-kept c = passed_on _ _ _ _ c.from_residual-in_err-kept.ensures (fails_behind c.in_ok-expect.ensures _ _ (fails_behind c.in_ok-head.ensures _ _ (first_fails _ _ _ c.in_err-kept.ensures)))
