use Rattle.std.proofs.Common.{sym, ◌∙◌}
use Rattle.ir_lex.specs.declared.token_kind.TokenKind.TheVariants as kinds
use Rattle.ir_tree.specs.declared.operand.Reg.TheVariants.{Ptr}
use Rattle.ir_parse_parts.specs.Classes.{the_at}
use Rattle.ir_parse_parts.specs.Readers.{◌>>=◌}
use Rattle.ir_parse_operands.specs.ValuesAt.{operand_at, pointed_at, pointer_at}
use Rattle.ir_parse_operands.proofs.Choices.{goes_on}
use Rattle.ir_parse_operands.proofs.Levels.{gives_as}
use Rattle.ir_parse_operands.proofs.values.pointed_at.Goals as goal

pub returns : goal.returns
unfolding pointed_at
returns c =
    gives_as _ _ _ _
    (sym (goes_on (λ _. pointer_at >>= λ _. operand_at Ptr) (the_at kinds.Comma c.args.tokens.now) tt c.expect.new.tokens c.in_ok-expect.ensures
    ∙ goes_on (λ _. operand_at Ptr) (pointer_at c.expect.new.tokens) tt c.pointer_at.new.tokens c.in_ok-pointer_at.ensures))
    c.operand_at.ensures
