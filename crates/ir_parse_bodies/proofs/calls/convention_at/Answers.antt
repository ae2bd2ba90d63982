use Rattle.std.proofs.Common.{sym}
use Rattle.ir_lex.specs.declared.token_kind.TokenKind.TheVariants as kinds
use Rattle.ir_parse_parts.specs.Alphabet.{among}
use Rattle.ir_parse_parts.specs.Classes.{the_at, tokens}
use Rattle.ir_parse_heads.specs.AttributesAt.{parameter_attribute_at}
use Rattle.ir_parse_bodies.specs.CallsAt.{CONVENTION}
use Rattle.ir_parse_bodies.specs.CallsAt.{convention_at}
use Rattle.ir_parse_bodies.proofs.Successions.{returns_as}
use Rattle.ir_parse_operands.proofs.Choices.{passes_over, picks}
use Rattle.ir_parse_bodies.proofs.calls.convention_at.Goals as goal

pub returns-then-comes : goal.returns-then-comes
unfolding convention_at
returns-then-comes c = returns_as (picks (among tokens CONVENTION) (the_at kinds.CallingConvention) parameter_attribute_at c.args.tokens.now (sym c.if-comes.ensures)) _ _ c.expect.ensures

pub returns-else-comes : goal.returns-else-comes
unfolding convention_at
returns-else-comes c = returns_as (passes_over (among tokens CONVENTION) (the_at kinds.CallingConvention) parameter_attribute_at c.args.tokens.now (sym c.if-comes.ensures)) _ _ c.parameter_attribute_at.ensures
