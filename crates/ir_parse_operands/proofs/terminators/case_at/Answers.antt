use Rattle.ir_parse_operands.proofs.Levels.{given}
use Rattle.ir_parse_operands.proofs.TerminatorReadings.{case_begun}
use Rattle.std.proofs.Common.{arith, sym, subst, ◌∙◌}
use Rattle.ir_parse_parts.specs.declared.raw.Case.{Case}
use Rattle.ir_parse_parts.specs.Readers.{Fails, done}
use Rattle.ir_parse_operands.specs.TerminatorsAt.{branch_at, case_at}
use Rattle.ir_parse_operands.proofs.Additions.{first_fails}
use Rattle.ir_parse_operands.proofs.Choices.{goes_on}
use Rattle.ir_parse_operands.proofs.terminators.case_at.Goals as goal

pub returns : goal.returns
returns c =
    let m = c.in_ok-matched.matched in
    given _ _ _ _ c.done.ensures
    (case_begun c.args.tokens.now c.reg_at.new.tokens c.constant_at.new.tokens c.in_ok-reg.reg m c.in_ok-reg.ensures.exact c.in_ok-matched.ensures
    ∙ goes_on {B = Case} (λ to. done (record { reg = c.in_ok-reg.reg; width = m.width; bits = m.bits; target = to })) (branch_at c.constant_at.new.tokens) c.in_ok-target.target c.branch_at.new.tokens c.in_ok-target.ensures)

pub returns-in_err-target : goal.returns-in_err-target
returns-in_err-target c =
    let m = c.in_ok-matched.matched in
    let e = c.in_err-target.field-0.0 in
    let f : Fails e (case_at c.args.tokens.now) =
    subst (Fails e) (sym (case_begun c.args.tokens.now c.reg_at.new.tokens c.constant_at.new.tokens c.in_ok-reg.reg m c.in_ok-reg.ensures.exact c.in_ok-matched.ensures))
    (first_fails {B = Case} e (branch_at c.constant_at.new.tokens) (λ to. done (record { reg = c.in_ok-reg.reg; width = m.width; bits = m.bits; target = to })) c.in_err-target.ensures) in
    grind (arith, f)
