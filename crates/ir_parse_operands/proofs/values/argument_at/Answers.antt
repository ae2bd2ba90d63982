use Rattle.std.proofs.Common.{◌∙◌}
use Rattle.ir_parse_parts.specs.Readers.{done, ◌>>=◌}
use Rattle.ir_parse_parts.specs.OperandsAt.{reg_at}
use Rattle.ir_parse_operands.specs.ValuesAt.{argument_at, operand_at}
use Rattle.ir_parse_operands.proofs.Choices.{goes_on}
use Rattle.ir_parse_operands.proofs.Levels.{given}
use Rattle.ir_parse_operands.proofs.values.argument_at.Goals as goal

pub returns : goal.returns
unfolding argument_at
returns c =
    given _ _ _ _ c.done.ensures
    (goes_on (λ r. operand_at r >>= λ o. done (record { reg = r; operand = o })) (reg_at c.args.tokens.now) c.in_ok-reg.reg c.reg_at.new.tokens c.in_ok-reg.ensures.exact
    ∙ goes_on (λ o. done (record { reg = c.in_ok-reg.reg; operand = o })) (operand_at c.in_ok-reg.reg c.reg_at.new.tokens) c.in_ok-operand.operand c.operand_at.new.tokens c.in_ok-operand.ensures)
