use Rattle.std.proofs.Common.{sym, ◌∙◌}
use Rattle.ir_parse_operands.proofs.Choices.{address_comes, simple_comes}
use Rattle.ir_parse_operands.proofs.Levels.{gives_as}
use Rattle.ir_parse_operands.proofs.values.operand_at.Goals as goal

pub returns-then-comes : goal.returns-then-comes
returns-then-comes c = gives_as _ _ _ _ (sym (address_comes c.args.reg c.args.tokens.now (sym c.comes.ensures ∙ c.if-comes.true))) c.address_at.ensures

pub returns-else-comes : goal.returns-else-comes
returns-else-comes c = gives_as _ _ _ _ (sym (simple_comes c.args.reg c.args.tokens.now (sym c.comes.ensures ∙ c.if-comes.false))) c.simple_at.ensures
