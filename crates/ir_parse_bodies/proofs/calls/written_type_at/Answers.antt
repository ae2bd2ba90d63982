use Rattle.ir_lex.specs.Tok.{tok}
use Rattle.ir_parse_bodies.proofs.MeantTokens.{none_meant, token_meant}
use Rattle.ir_parse_parts.specs.Classes.{itself, tokens}
use Rattle.ir_parse_parts.specs.Rules.{is_among}
use Rattle.ir_parse_parts.specs.Operands.{REG, type_refusal}
use Rattle.ir_parse_bodies.proofs.calls.written_type_at.Goals as goal

pub returns-in_ok-written_type_means-in-Some : goal.returns-in_ok-written_type_means-in-Some
returns-in_ok-written_type_means-in-Some c = token_meant (is_among tokens type_refusal REG itself) c.left-left.result c.args.tokens.now c.left-left.ensures c.take.new.self (tok c.in-Some.t) _ _ c.in-Some.ensures c.in_ok-written_type_means-in-Some.ensures c.meant.ensures

pub returns-in-None : goal.returns-in-None
returns-in-None c = none_meant (is_among tokens type_refusal REG itself) c.left-left.result c.args.tokens.now c.left-left.ensures c.in-None.ensures.0
