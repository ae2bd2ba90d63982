use Rattle.ir_parse_bodies.specs.CallsAt.{some_types_at}
use Rattle.ir_parse_bodies.proofs.Successions.{passed_on, returns_behind}
use Rattle.ir_parse_operands.proofs.Additions.{first_fails}
use Rattle.ir_parse_bodies.proofs.calls.some_types_at.Goals as goal

pub returns : goal.returns
unfolding some_types_at
returns c = returns_behind c.in_ok-first.ensures _ _ _ (c.types_behind_at.ensures)

pub returns-in_err-first : goal.returns-in_err-first
unfolding some_types_at
returns-in_err-first c = passed_on _ _ _ _ c.from_residual.ensures (first_fails _ _ _ c.in_err-first.ensures)
