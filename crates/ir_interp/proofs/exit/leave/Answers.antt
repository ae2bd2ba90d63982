use Rattle.std.proofs.Common.{List, sym, subst}
use Rattle.ir_meaning.specs.Act.{by_value, side}
use Rattle.ir_meaning.specs.declared.value.Value.{Value as MeantValue}
use Rattle.ir_machine.specs.Meant.{meant}
use Rattle.ir_interp.specs.Exits.{IsExitKnown, IsLeft, case_target, exit_meant}
use Rattle.ir_interp.specs.declared.exit.Case.{Case}
use Rattle.ir_interp.specs.declared.exit.Exit.{Exit}
use Rattle.ir_interp.proofs.exit.leave.Goals as goal

pub returns-in-Branch : goal.returns-in-Branch
returns-in-Branch c = λ names m memory locals a k.
    let known = subst (λ (x : Exit). IsExitKnown names m memory x) c.in-Branch.is k in
    let read = c.value-in-Branch.ensures names m memory locals a known in
    subst (λ (x : Exit). IsLeft names m memory (exit_meant names locals x) c.branch-value.result) (sym c.in-Branch.is)
    (subst (λ (v : MeantValue). IsLeft names m memory (by_value 1 (side c.in-Branch.if_true c.in-Branch.if_false) v) c.branch-value.result) read.0 (c.branch-value.ensures names m memory))

pub returns-in-Switch : goal.returns-in-Switch
returns-in-Switch c = λ names m memory locals a k.
    let known = subst (λ (x : Exit). IsExitKnown names m memory x) c.in-Switch.is k in
    let read = c.value-in-Switch.ensures names m memory locals a known in
    subst (λ (x : Exit). IsLeft names m memory (exit_meant names locals x) c.switch.result) (sym c.in-Switch.is)
    (subst (λ (v : MeantValue). IsLeft names m memory (by_value c.in-Switch.width (case_target c.in-Switch.cases.items c.in-Switch.default) v) c.switch.result) read.0
    (subst (λ (cs : List Case). IsLeft names m memory (by_value c.in-Switch.width (case_target cs c.in-Switch.default) (meant names c.value-in-Switch.result)) c.switch.result) c.deref.ensures.value
    (c.switch.ensures names m memory)))
