use Rattle.std.proofs.Common.{List, [], ◌∷◌, ◌++◌, Result, sym, ap, ◌∙◌}
use Rattle.ir_lex.specs.Tok.{Tok}
use Rattle.ir_parse_parts.specs.Alphabet.{among}
use Rattle.ir_parse_parts.specs.Classes.{tokens}
use Rattle.ir_parse_parts.specs.declared.fault.Fault.{Fault}
use Rattle.ir_parse_parts.specs.declared.raw.Item.{Item}
use Rattle.ir_parse_parts.specs.Readers.{done, follow}
use Rattle.ir_parse_bodies.specs.BlocksAt.{definition_at}
use Rattle.ir_parse_globals.specs.Variables.{NAMES}
use Rattle.ir_parse_globals.specs.VariablesAt.{variable_line_at}
use Rattle.ir_parse_operands.proofs.Choices.{passes_over, picks}
use Rattle.ir_parse_operands.proofs.Levels.{gives_as}
use Rattle.ir_parse.proofs.items.defining_into.Goals as goal

pub returns-then-comes_variable : goal.returns-then-comes_variable
returns-then-comes_variable c =
    gives_as _ _ _ _
    (ap (λ (r : Result (Item × List Tok) Fault). follow r (λ i. done (c.args.items.now.items ++ i ∷ []))) (sym (picks (among tokens NAMES) variable_line_at (definition_at c.args.room) c.args.rest.now (sym c.comes_variable.ensures ∙ c.if-comes_variable.true))))
    c.variable_line_into.ensures

pub returns-else-comes_variable : goal.returns-else-comes_variable
returns-else-comes_variable c =
    gives_as _ _ _ _
    (ap (λ (r : Result (Item × List Tok) Fault). follow r (λ i. done (c.args.items.now.items ++ i ∷ []))) (sym (passes_over (among tokens NAMES) variable_line_at (definition_at c.args.room) c.args.rest.now (sym c.comes_variable.ensures ∙ c.if-comes_variable.false))))
    c.definition_into.ensures
