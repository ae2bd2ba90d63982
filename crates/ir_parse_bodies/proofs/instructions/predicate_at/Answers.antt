use Rattle.ir_lex.specs.Tok.{tok}
use Rattle.ir_parse_bodies.proofs.MeantTokens.{none_meant, token_meant}
use Rattle.ir_parse_parts.specs.Classes.{tokens, refusal}
use Rattle.ir_parse_parts.specs.Rules.{is_among}
use Rattle.ir_parse_bodies.specs.Instructions.{PREDICATES, predicate_of}
use Rattle.ir_parse_bodies.proofs.instructions.predicate_at.Goals as goal

pub returns-in-Some : goal.returns-in-Some
returns-in-Some c = token_meant (is_among tokens refusal PREDICATES predicate_of) c.left-left.result c.args.tokens.now c.left-left.ensures c.take.new.self (tok c.in-Some.t) _ _ c.in-Some.ensures c.predicate_means.ensures c.meant.ensures

pub returns-in-None : goal.returns-in-None
returns-in-None c = none_meant (is_among tokens refusal PREDICATES predicate_of) c.left-left.result c.args.tokens.now c.left-left.ensures c.in-None.ensures.0
