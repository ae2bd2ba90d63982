use Rattle.ir_lex.specs.Tok.{tok}
use Rattle.ir_parse_bodies.proofs.MeantTokens.{none_meant, token_meant}
use Rattle.ir_parse_parts.specs.Classes.{tokens}
use Rattle.ir_parse_parts.specs.Rules.{is_valued}
use Rattle.ir_tree.specs.declared.operand.Reg.TheVariants.{Ptr}
use Rattle.ir_parse_parts.specs.Operands.{classes_of, operand_of}
use Rattle.ir_parse_bodies.specs.Calls.{marker_refusal}
use Rattle.ir_parse_bodies.proofs.calls.unmarked_at.Goals as goal

pub returns-in_ok-unmarked_means-in-Some : goal.returns-in_ok-unmarked_means-in-Some
returns-in_ok-unmarked_means-in-Some c = token_meant (is_valued tokens marker_refusal (classes_of Ptr) (operand_of Ptr)) c.left-left.result c.args.tokens.now c.left-left.ensures c.take.new.self (tok c.in-Some.t) _ _ c.in-Some.ensures c.in_ok-unmarked_means-in-Some.ensures c.meant.ensures

pub returns-in-None : goal.returns-in-None
returns-in-None c = none_meant (is_valued tokens marker_refusal (classes_of Ptr) (operand_of Ptr)) c.left-left.result c.args.tokens.now c.left-left.ensures c.in-None.ensures.0
