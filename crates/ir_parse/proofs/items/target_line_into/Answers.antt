use Rattle.std.proofs.Common.{List, [], ◌∷◌, ◌++◌, Result, sym, ap, ◌∙◌}
use Rattle.ir_lex.specs.declared.token_kind.TokenKind.TheVariants as kinds
use Rattle.ir_lex.specs.Tok.{Tok}
use Rattle.ir_parse_parts.specs.Alphabet.{among}
use Rattle.ir_parse_parts.specs.Classes.{the_at, tokens}
use Rattle.ir_parse_parts.specs.declared.fault.Fault.{Fault}
use Rattle.ir_parse_parts.specs.declared.raw.Item.{Item}
use Rattle.ir_parse_parts.specs.Readers.{done, follow, pick}
use Rattle.ir_parse_heads.specs.TargetsAt.{LAYOUT, layout_line_at, target_line_at, triple_line_at}
use Rattle.ir_parse_operands.proofs.Choices.{goes_on, passes_over, picks}
use Rattle.ir_parse_operands.proofs.Levels.{gives_as}
use Rattle.ir_parse.proofs.items.target_line_into.Goals as goal

pub returns-then-comes : goal.returns-then-comes
unfolding target_line_at
returns-then-comes c =
    gives_as _ _ _ _
    (ap (λ (r : Result (Item × List Tok) Fault). follow r (λ i. done (c.args.items.now.items ++ i ∷ [])))
    (sym (goes_on (λ _. pick (among tokens LAYOUT) layout_line_at triple_line_at) (the_at kinds.Target c.args.tokens.now) tt c.expect.new.tokens c.in_ok-expect.ensures
    ∙ picks (among tokens LAYOUT) layout_line_at triple_line_at c.expect.new.tokens (sym c.comes.ensures ∙ c.if-comes.true))))
    c.layout_line_into.ensures

pub returns-else-comes : goal.returns-else-comes
unfolding target_line_at
returns-else-comes c =
    gives_as _ _ _ _
    (ap (λ (r : Result (Item × List Tok) Fault). follow r (λ i. done (c.args.items.now.items ++ i ∷ [])))
    (sym (goes_on (λ _. pick (among tokens LAYOUT) layout_line_at triple_line_at) (the_at kinds.Target c.args.tokens.now) tt c.expect.new.tokens c.in_ok-expect.ensures
    ∙ passes_over (among tokens LAYOUT) layout_line_at triple_line_at c.expect.new.tokens (sym c.comes.ensures ∙ c.if-comes.false))))
    c.triple_line_into.ensures
