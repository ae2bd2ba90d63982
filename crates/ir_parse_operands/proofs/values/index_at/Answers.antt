use Rattle.std.proofs.Common.{sym, ◌∙◌}
use Rattle.ir_lex.specs.declared.token_kind.TokenKind.TheVariants as kinds
use Rattle.ir_parse_parts.specs.Classes.{the_at}
use Rattle.ir_parse_parts.specs.OperandsAt.{integer_at}
use Rattle.ir_parse_parts.specs.Readers.{◌>>=◌}
use Rattle.ir_parse_operands.specs.ValuesAt.{index_at, index_number_at}
use Rattle.ir_parse_operands.proofs.Choices.{goes_on}
use Rattle.ir_parse_operands.proofs.Levels.{gives_as}
use Rattle.ir_parse_operands.proofs.values.index_at.Goals as goal

pub returns : goal.returns
unfolding index_at
returns c =
    gives_as _ _ _ _
    (sym (goes_on (λ _. integer_at >>= index_number_at) (the_at kinds.Comma c.args.tokens.now) tt c.expect.new.tokens c.in_ok-expect.ensures
    ∙ goes_on index_number_at (integer_at c.expect.new.tokens) c.in_ok-width.width c.integer_at.new.tokens c.in_ok-width.ensures.exact))
    c.index_number_at.ensures
