use Rattle.std.proofs.Common.{◌∙◌}
use Rattle.ir_lex.specs.declared.token_kind.TokenKind.TheVariants as kinds
use Rattle.ir_parse_parts.specs.Classes.{the_at}
use Rattle.ir_parse_parts.specs.Readers.{done, ◌>>=◌}
use Rattle.ir_parse_operands.specs.ShapeFormsAt.{memory_shape_at}
use Rattle.ir_parse_operands.specs.ValuesAt.{pointer_at}
use Rattle.ir_parse_operands.proofs.Choices.{goes_on}
use Rattle.ir_parse_operands.proofs.values.pointee_at.Goals as goal

pub returns : goal.returns
returns c =
    let typed = c.in_ok-typed.field-0.typed in
    goes_on (λ x. the_at kinds.Comma >>= λ _. pointer_at >>= λ _. done x) (memory_shape_at c.args.tokens.now) typed c.memory_shape_at.new.tokens c.in_ok-typed.ensures.exact
    ∙ goes_on (λ _. pointer_at >>= λ _. done typed) (the_at kinds.Comma c.memory_shape_at.new.tokens) tt c.expect.new.tokens c.in_ok-expect.ensures
    ∙ goes_on (λ _. done typed) (pointer_at c.expect.new.tokens) tt c.pointer_at.new.tokens c.in_ok-pointer_at.ensures
