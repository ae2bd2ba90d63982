use Rattle.std.proofs.Common.{refl}
use Rattle.ir_parse_bodies.specs.LinesAt.{named_line_at}
use Rattle.ir_parse_bodies.proofs.Successions.{passed_on, reads_behind, returns_within}
use Rattle.ir_parse_operands.proofs.Additions.{first_fails}
use Rattle.ir_parse_bodies.proofs.lines.named_line_into.Goals as goal

pub returns : goal.returns
unfolding named_line_at
returns c = returns_within (reads_behind c.in_ok-name.ensures _ refl) _ _ _ c.line_behind_into.ensures

pub returns-in_err-name : goal.returns-in_err-name
unfolding named_line_at
returns-in_err-name c = passed_on _ _ _ _ c.from_residual.ensures (first_fails _ _ _ (first_fails _ _ _ c.in_err-name.ensures))
