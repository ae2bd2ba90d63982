use Rattle.std.proofs.Common.{◌≡◌, sym, subst}
use Rattle.ir_lex.specs.Tok.{tok}
use Rattle.std.specs.Prelude.{IfOk}
use Rattle.ir_parse_bodies.proofs.MeantTokens.{marker_means, other_means}
use Rattle.ir_parse_bodies.proofs.calls.unmarked_means.Goals as goal

pub returns-then-is : goal.returns-then-is
returns-then-is c = sym (marker_means (tok c.args.t.now) c.if-is.ensures)

pub returns-else-is : goal.returns-else-is
returns-else-is c = subst (λ r. IfOk c.operand_means.result (λ x. x ≡ r)) (sym (other_means (tok c.args.t.now) c.if-is.ensures)) c.operand_means.ensures
