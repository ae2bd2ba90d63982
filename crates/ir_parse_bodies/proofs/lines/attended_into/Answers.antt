use Rattle.std.proofs.Common.{List, refl}
use Rattle.std.proofs.Common.{Result}
use Rattle.ir_lex.specs.Tok.{Tok}
use Rattle.ir_parse_parts.specs.declared.fault.Fault.{Fault}
use Rattle.ir_parse_parts.specs.Readers.{done, follow}
use Rattle.ir_parse_bodies.specs.LinesAt.{operation_at}
use Rattle.ir_parse_bodies.proofs.Listed.{attended_listed}
use Rattle.ir_parse_bodies.proofs.Successions.{fails_as, passed_on, returns_as, returns_behind, returns_through}
use Rattle.ir_parse_operands.proofs.Additions.{first_fails}
use Rattle.ir_parse_bodies.proofs.lines.attended_into.Goals as goal

pub returns : goal.returns
returns c = returns_as (attended_listed c.args.list.now (operation_at c.args.operation) c.args.tokens.now) _ _ (returns_behind c.in_ok-operation_into.ensures _ _ _ (returns_through (λ (r : Result (Unit {0} × List Tok) Fault). follow r (λ _. done c.operation_into.new.list.lines.items)) _ _ _ _ (λ f. refl) (refl) c.attachments_at.ensures))

pub returns-in_err-operation_into : goal.returns-in_err-operation_into
returns-in_err-operation_into c = passed_on _ _ _ _ c.from_residual.ensures (fails_as (attended_listed c.args.list.now (operation_at c.args.operation) c.args.tokens.now) _ (first_fails _ _ _ c.in_err-operation_into.ensures))
