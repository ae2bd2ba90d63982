use Rattle.std.proofs.Common.{List, Ok, ap, refl, ◌∙◌, []}
use Rattle.std.proofs.Common.{◌-◌, Result, drop, length, take}
use Rattle.std.proofs.lemmas.List.{append-nil}
use Rattle.ir_lex.specs.Tok.{Tok}
use Rattle.ir_lex.specs.declared.token_kind.TokenKind.TheVariants as kinds
use Rattle.ir_parse_parts.specs.declared.fault.Fault.{Fault}
use Rattle.ir_parse_parts.specs.Readers.{done, follow}
use Rattle.ir_parse_parts.specs.Classes.{the_at}
use Rattle.ir_parse_parts.specs.declared.raw.Argument.{Argument}
use Rattle.ir_parse_bodies.specs.CallsAt.{some_of_at}
use Rattle.ir_parse_bodies.proofs.Additions.{joined_closed, joined_to}
use Rattle.ir_parse_bodies.proofs.CallReadings.{first_of_types, no_types}
use Rattle.ir_parse_bodies.proofs.Successions.{fails_as, passed_on, returns_as, returns_behind, returns_through}
use Rattle.ir_parse_operands.proofs.Additions.{first_fails}
use Rattle.ir_parse_bodies.proofs.calls.arguments_of_into.Goals as goal

pub returns-in_ok-some_of_into-in-len1-up : goal.returns-in_ok-some_of_into-in-len1-up
returns-in_ok-some_of_into-in-len1-up c = returns_as (ap (λ (r : Result (List Argument × List Tok) Fault). follow r (joined_to c.args.arguments.now.items)) (first_of_types c.args.types.now c.first-item.result c.args.tokens.now c.in-len1-up.len_at_least c.first-item.is) ∙ joined_closed c.args.arguments.now.items (the_at kinds.CloseParen) (some_of_at c.first-item.result (take (length c.args.types.now - 1) (drop 1 c.args.types.now)) c.args.tokens.now)) _ _ (returns_behind c.in_ok-some_of_into-in-len1-up.ensures _ _ _ (returns_through (λ (r : Result (Unit {0} × List Tok) Fault). follow r (λ _. done c.some_of_into.new.arguments.items)) _ _ _ _ (λ f. refl) (refl) c.expect-in-len1-up.ensures))

pub returns-in_err-some_of_into-in-len1-up : goal.returns-in_err-some_of_into-in-len1-up
returns-in_err-some_of_into-in-len1-up c = passed_on _ _ _ _ c.from_residual.ensures (fails_as (ap (λ (r : Result (List Argument × List Tok) Fault). follow r (joined_to c.args.arguments.now.items)) (first_of_types c.args.types.now c.first-item.result c.args.tokens.now c.in-len1-up.len_at_least c.first-item.is) ∙ joined_closed c.args.arguments.now.items (the_at kinds.CloseParen) (some_of_at c.first-item.result (take (length c.args.types.now - 1) (drop 1 c.args.types.now)) c.args.tokens.now)) _ (first_fails _ _ _ c.in_err-some_of_into-in-len1-up.ensures))

pub returns-in-empty : goal.returns-in-empty
returns-in-empty c = returns_as (ap (λ (r : Result (List Argument × List Tok) Fault). follow r (joined_to c.args.arguments.now.items)) (no_types c.args.types.now c.args.tokens.now c.in-empty.len_below)) _ _ (returns_through (λ (r : Result (Unit {0} × List Tok) Fault). follow (follow r (λ _. done [])) (joined_to c.args.arguments.now.items)) _ _ _ _ (λ f. refl) (ap (λ (all : List Argument). Ok (all, c.expect.new.tokens)) (append-nil c.args.arguments.now.items)) c.expect.ensures)
