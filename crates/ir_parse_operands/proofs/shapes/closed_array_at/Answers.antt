use Rattle.std.proofs.Common.{List, Result, Ok, sym, subst, ap, ◌∙◌}
use Rattle.ir_lex.specs.Tok.{Tok}
use Rattle.ir_parse_parts.specs.declared.fault.Fault.{Fault}
use Rattle.ir_parse_parts.specs.Readers.{done, follow}
use Rattle.ir_parse_parts.specs.Shapes.{Written, array}
use Rattle.ir_parse_operands.specs.Extents.{Fits}
use Rattle.ir_parse_operands.specs.ShapeForms.{typed}
use Rattle.ir_parse_operands.proofs.shapes.closed_array_at.Goals as goal

pub returns-clause-exact : goal.returns-clause-exact
returns-clause-exact c =
    ap (λ (r : Result (Unit {0} × List Tok) Fault). follow r (λ _. done (typed (array c.args.count c.args.element.typed.shape) c.args.line))) c.in_ok-expect.ensures
    ∙ ap (λ (s : Written). Ok (typed s c.args.line, c.expect.new.tokens)) (sym c.in_ok-shape.ensures)

pub returns-clause-fits : goal.returns-clause-fits
returns-clause-fits c = λ room h. subst (Fits room) (sym c.repeated-extent.ensures) h
