use Rattle.std.proofs.Common.{sym, ap, ◌∙◌}
use Rattle.ir_lex.specs.Tok.{tok}
use Rattle.ir_parse_parts.specs.Shapes.{Written, int}
use Rattle.ir_parse_operands.specs.ShapeForms.{typed}
use Rattle.ir_parse_operands.proofs.Leaves.{integer_typed, pointer_typed}
use Rattle.ir_parse_operands.proofs.shapes.scalar_of.Goals as goal

pub returns-then-is-clause-exact : goal.returns-then-is-clause-exact
returns-then-is-clause-exact c = ap (λ (s : Written). typed s c.args.t.now.line) c.ptr.ensures ∙ sym (pointer_typed (tok c.args.t.now) (sym c.is.ensures ∙ c.if-is.true))

pub returns-else-is-clause-exact : goal.returns-else-is-clause-exact
returns-else-is-clause-exact c = ap (λ (s : Written). typed s c.args.t.now.line) (c.int.ensures ∙ ap int c.width-width.ensures.exact) ∙ sym (integer_typed (tok c.args.t.now) (sym c.is.ensures ∙ c.if-is.false))
