use Rattle.std.proofs.Common.{List, ap, refl, sym, ◌∙◌, []}
use Rattle.std.proofs.Common.{Result}
use Rattle.ir_lex.specs.Tok.{Tok}
use Rattle.ir_lex.specs.declared.token_kind.TokenKind.TheVariants as kinds
use Rattle.ir_parse_parts.specs.declared.fault.Fault.{Fault}
use Rattle.ir_parse_parts.specs.Readers.{done, follow, ◌>>=◌}
use Rattle.ir_parse_parts.specs.declared.raw.Argument.{Argument}
use Rattle.ir_parse_parts.specs.Operands.{REG}
use Rattle.ir_parse_heads.specs.FunctionHeadsAt.{end_of_none_at}
use Rattle.ir_parse_bodies.specs.CallsAt.{some_arguments_at}
use Rattle.ir_parse_bodies.proofs.Additions.{joined_closed, joined_to}
use Rattle.ir_parse_parts.specs.Alphabet.{among}
use Rattle.ir_parse_parts.specs.Classes.{the_at, tokens}
use Rattle.ir_parse_bodies.specs.CallsAt.{any_arguments_at}
use Rattle.ir_parse_bodies.proofs.Successions.{fails_as, passed_on, returns_as, returns_behind, returns_through}
use Rattle.ir_parse_operands.proofs.Additions.{first_fails}
use Rattle.ir_parse_operands.proofs.Choices.{picks}
use Rattle.ir_parse_bodies.proofs.calls.any_arguments_into.Goals as goal

pub returns-in_ok-some_arguments_into : goal.returns-in_ok-some_arguments_into
unfolding any_arguments_at
returns-in_ok-some_arguments_into c = returns_as (ap (λ (r : Result (List Argument × List Tok) Fault). follow r (joined_to c.args.arguments.now.items)) (picks (among tokens REG) (some_arguments_at >>= λ all. the_at kinds.CloseParen >>= λ _. done all) (end_of_none_at >>= λ _. done []) c.args.tokens.now (sym c.if-comes_reg.ensures)) ∙ joined_closed c.args.arguments.now.items (the_at kinds.CloseParen) (some_arguments_at c.args.tokens.now)) _ _ (returns_behind c.in_ok-some_arguments_into.ensures _ _ _ (returns_through (λ (r : Result (Unit {0} × List Tok) Fault). follow r (λ _. done c.some_arguments_into.new.arguments.items)) _ _ _ _ (λ f. refl) (refl) c.expect.ensures))

pub returns-in_err-some_arguments_into : goal.returns-in_err-some_arguments_into
unfolding any_arguments_at
returns-in_err-some_arguments_into c = passed_on _ _ _ _ c.from_residual.ensures (fails_as (ap (λ (r : Result (List Argument × List Tok) Fault). follow r (joined_to c.args.arguments.now.items)) (picks (among tokens REG) (some_arguments_at >>= λ all. the_at kinds.CloseParen >>= λ _. done all) (end_of_none_at >>= λ _. done []) c.args.tokens.now (sym c.if-comes_reg.ensures)) ∙ joined_closed c.args.arguments.now.items (the_at kinds.CloseParen) (some_arguments_at c.args.tokens.now)) _ (first_fails _ _ _ c.in_err-some_arguments_into.ensures))
