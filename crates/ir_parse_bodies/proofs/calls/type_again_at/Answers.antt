use Rattle.std.proofs.Common.{ap, sym, ◌∙◌}
use Rattle.ir_lex.specs.Tok.{tok}
use Rattle.ir_parse_parts.specs.Classes.{tokens}
use Rattle.ir_parse_parts.specs.Rules.{is_exact}
use Rattle.ir_parse_parts.specs.Operands.{REG, reg_of, type_refusal}
use Rattle.ir_parse_bodies.specs.Calls.{is_type}
use Rattle.ir_parse_bodies.proofs.MeantTokens.{none_meant, token_meant}
use Rattle.ir_parse_bodies.proofs.calls.type_again_at.Goals as goal

pub returns-in-Some-clause-exact : goal.returns-in-Some-clause-exact
returns-in-Some-clause-exact c =
    token_meant (is_exact tokens type_refusal REG (is_type c.args.written.now) reg_of) c.left-left.result c.args.tokens.now c.left-left.ensures c.take.new.self (tok c.in-Some.t) _ _ c.in-Some.ensures (c.type_again.ensures.exact ∙ ap (λ w. is_exact tokens type_refusal REG (is_type w) reg_of (tok c.in-Some.t)) (sym c.token-token.ensures)) c.meant.ensures

pub returns-in-None-clause-exact : goal.returns-in-None-clause-exact
returns-in-None-clause-exact c = none_meant (is_exact tokens type_refusal REG (is_type c.args.written.now) reg_of) c.left-left.result c.args.tokens.now c.left-left.ensures c.in-None.ensures.0
