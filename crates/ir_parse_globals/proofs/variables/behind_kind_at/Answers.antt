use Rattle.std.proofs.Common.{arith, Ok, sym, ap, subst, ◌∙◌}
use Rattle.ir_parse_parts.specs.Readers.{Fails}
use Rattle.ir_parse_globals.specs.VariablesAt.{behind_kind_at}
use Rattle.ir_parse_globals.proofs.Grouping.{behind_kind_is, made}
use Rattle.ir_parse_operands.proofs.Choices.{goes_on}
use Rattle.ir_parse_operands.proofs.Additions.{first_fails}
use Rattle.ir_parse_globals.proofs.variables.behind_kind_at.Goals as goal

pub returns : goal.returns
returns c =
    let h = c.args.headed in
    let b = c.in_ok-body.body in
    behind_kind_is h.name h.linkage h.constant c.args.tokens.now
    ∙ goes_on (made h.name h.linkage h.constant) _ b c.body_at.new.tokens c.in_ok-body.ensures
    ∙ ap (λ x. Ok (x, c.body_at.new.tokens)) (sym c.variable_of.ensures)

pub returns-in_err-body : goal.returns-in_err-body
returns-in_err-body c =
    let h = c.args.headed in
    let e = c.in_err-body.field-0.0 in
    let f : Fails e (behind_kind_at h.name h.linkage h.constant c.args.tokens.now) =
    subst (Fails e) (sym (behind_kind_is h.name h.linkage h.constant c.args.tokens.now)) (first_fails e _ (made h.name h.linkage h.constant) c.in_err-body.ensures) in
    grind (arith, f)
