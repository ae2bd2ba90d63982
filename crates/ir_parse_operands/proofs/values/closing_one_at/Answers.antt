use Rattle.std.proofs.Common.{List, Ok, sym, ap, ◌∙◌}
use Rattle.ir_lex.specs.declared.token_kind.TokenKind.TheVariants as kinds
use Rattle.ir_parse_parts.specs.Classes.{the_at}
use Rattle.ir_parse_parts.specs.Readers.{done, ◌>>=◌}
use Rattle.ir_parse_parts.specs.declared.address.Index.{Index}
use Rattle.ir_parse_operands.specs.Values.{level}
use Rattle.ir_parse_operands.specs.ValuesAt.{closing_one_at, indices_at}
use Rattle.ir_parse_operands.proofs.Choices.{goes_on}
use Rattle.ir_parse_operands.proofs.Levels.{given}
use Rattle.ir_parse_operands.proofs.values.closing_one_at.Goals as goal

pub returns : goal.returns
unfolding closing_one_at
returns c =
    let indices = c.in_ok-indices.indices.items in
    let after = c.expect.new.tokens in
    given _ _ _ _ c.done.ensures
    (goes_on (λ is. the_at kinds.CloseParen >>= λ _. done (level c.args.typed is)) (indices_at c.args.tokens.now) indices c.indices_at.new.tokens c.in_ok-indices.ensures
    ∙ goes_on (λ _. done (level c.args.typed indices)) (the_at kinds.CloseParen c.indices_at.new.tokens) tt after c.in_ok-expect.ensures
    ∙ ap (λ (is : List Index). Ok (level c.args.typed is, after)) (sym c.of.ensures))
