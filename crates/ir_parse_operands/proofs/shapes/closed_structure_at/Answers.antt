use Rattle.std.proofs.Common.{List, Result, Ok, sym, ap, ◌∙◌}
use Rattle.ir_lex.specs.Tok.{Tok}
use Rattle.ir_parse_parts.specs.declared.fault.Fault.{Fault}
use Rattle.ir_parse_parts.specs.Readers.{done, follow}
use Rattle.ir_parse_parts.specs.Shapes.{Written, parts_of, structure}
use Rattle.ir_parse_operands.specs.ShapeForms.{typed}
use Rattle.ir_parse_operands.proofs.shapes.closed_structure_at.Goals as goal

pub returns-clause-exact : goal.returns-clause-exact
returns-clause-exact c =
    ap (λ (r : Result (Unit {0} × List Tok) Fault). follow r (λ _. done (typed (structure c.args.packed (parts_of c.args.members.shapes.items)) c.args.line))) c.in_ok-structure_end_at.ensures
    ∙ ap (λ (s : Written). Ok (typed s c.args.line, c.structure_end_at.new.tokens)) (sym c.structure.ensures)
