use Rattle.std.proofs.Common.{ap, sym}
use Rattle.std.proofs.Common.{ℕ, true, Some}
use Rattle.ir_parse_parts.specs.Readers.{done, follow}
use Rattle.ir_parse_bodies.specs.Lines.{lined}
use Rattle.ir_parse_bodies.specs.LinesAt.{behind_at}
use Rattle.ir_parse_bodies.specs.LinesAt.{line_behind_at}
use Rattle.ir_parse_bodies.proofs.Successions.{fails_behind, passed_on, reads_behind, returns_within}
use Rattle.ir_parse_operands.proofs.Additions.{first_fails}
use Rattle.ir_parse_bodies.proofs.lines.line_behind_into.Goals as goal

pub returns : goal.returns
unfolding line_behind_at
returns c = returns_within (reads_behind c.in_ok-expect.ensures _ (reads_behind c.in_ok-opcode.ensures _ (ap (λ (n : ℕ). follow (behind_at true c.in_ok-opcode.opcode c.giving_at.new.tokens) (λ i. done (lined (Some c.args.name) n i))) (sym c.line-list.ensures)))) _ _ _ c.behind_into.ensures

pub returns-in_err-expect : goal.returns-in_err-expect
unfolding line_behind_at
returns-in_err-expect c = passed_on _ _ _ _ c.from_residual.ensures (first_fails _ _ _ (first_fails _ _ _ c.in_err-expect.ensures))

pub returns-in_err-opcode : goal.returns-in_err-opcode
unfolding line_behind_at
returns-in_err-opcode c = passed_on _ _ _ _ c.from_residual-in_err-opcode.ensures (first_fails _ _ _ (fails_behind c.in_ok-expect.ensures _ _ (first_fails _ _ _ c.in_err-opcode.ensures)))
