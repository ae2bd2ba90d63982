use Rattle.std.proofs.Common.{sym, ◌∙◌}
use Rattle.ir_parse_operands.specs.Addressing.{slots_fit}
use Rattle.ir_parse_operands.proofs.Choices.{no_slots_behind, slots_behind_comma, goes_on}
use Rattle.ir_parse_operands.proofs.Levels.{gives_as}
use Rattle.ir_lex.specs.declared.token_kind.TokenKind.TheVariants as kinds
use Rattle.ir_parse_parts.specs.Classes.{the_at}
use Rattle.ir_parse_operands.specs.AddressingAt.{slots_at}
use Rattle.ir_parse_operands.proofs.addressing.slots_behind_at.Goals as goal

pub returns-in_ok-expect : goal.returns-in_ok-expect
returns-in_ok-expect c =
    let fits = slots_fit c.args.shape.now.typed.shape in
    gives_as _ _ _ _
    (sym (slots_behind_comma fits c.args.tokens.now (sym c.comes.ensures ∙ c.if-comes.true) ∙ goes_on (λ _. slots_at fits) (the_at kinds.Comma c.args.tokens.now) tt c.expect.new.tokens c.in_ok-expect.ensures))
    c.slots_at.ensures

pub returns-else-comes : goal.returns-else-comes
returns-else-comes c = no_slots_behind (slots_fit c.args.shape.now.typed.shape) c.args.tokens.now (sym c.comes.ensures ∙ c.if-comes.false)
