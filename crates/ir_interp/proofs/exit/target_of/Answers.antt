use Rattle.std.proofs.Common.{◌∙◌, List, sym, ap, arith}
use Rattle.ir_interp.proofs.Passing.{case_found, case_passed}
use Rattle.std.proofs.lemmas.List.{drop_all}
use Rattle.ir_interp.specs.Exits.{case_target}
use Rattle.ir_interp.specs.declared.exit.Case.{Case}
use Rattle.ir_interp.proofs.exit.target_of.Goals as goal

pub returns-then-case-number : goal.returns-then-case-number
returns-then-case-number c =
    case_found c.args.cases.now c.loop-case.case-index (record { bits = 0; target = 0 }) c.args.default c.args.number c.loop-case-test.true c.if-case-number.true
    ∙ c.loop-case.invariant

pub returns : goal.returns
returns c =
    sym (ap (λ (cases : List Case). case_target cases c.args.default c.args.number) (drop_all c.loop-case.case-index c.args.cases.now (omega (arith, c.loop-case-test.false))))
    ∙ c.loop-case.invariant

pub loop-case-preserved : goal.loop-case-preserved
loop-case-preserved c =
    case_passed c.args.cases.now c.loop-case.case-index (record { bits = 0; target = 0 }) c.args.default c.args.number c.loop-case-test.true c.if-case-number.false ∙ c.loop-case.invariant
