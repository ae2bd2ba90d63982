use Rattle.std.proofs.Common.{sym}
use Rattle.ir_lex.specs.declared.token_kind.TokenKind.TheVariants as kinds
use Rattle.ir_parse_parts.specs.Classes.{the_at}
use Rattle.ir_parse_parts.specs.OperandsAt.{local_at}
use Rattle.ir_parse_operands.specs.TerminatorsAt.{target_at}
use Rattle.ir_parse_operands.proofs.Choices.{goes_on}
use Rattle.ir_parse_operands.proofs.Levels.{gives_as}
use Rattle.ir_parse_operands.proofs.terminators.target_at.Goals as goal

pub returns : goal.returns
unfolding target_at
returns c = gives_as _ _ _ _ (sym (goes_on (λ _. local_at) (the_at kinds.LabelType c.args.tokens.now) tt c.expect.new.tokens c.in_ok-expect.ensures)) c.local_at.ensures
