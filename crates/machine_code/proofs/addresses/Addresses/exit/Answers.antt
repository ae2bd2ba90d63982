use Rattle.std.proofs.Common.{List, subst, ◌∙◌}
use Rattle.std.specs.List.{AllZip}
use Rattle.ir_tree.specs.declared.block.Case.{Case}
use Rattle.ir_tree.specs.declared.block.Terminator.TheVariants as end
use Rattle.machine_code.specs.Blocks.{IsCase}
use Rattle.machine_code.proofs.Leaving.{branched, by_end, jumped, switched, unreached}
use Rattle.machine_code.proofs.addresses.Addresses.exit.Goals as goal

pub returns-in-Return : goal.returns-in-Return
returns-in-Return c = λ blocks p. by_end c.args.self.now blocks c.args.end.now (end.Return c.in-Return.answer) _ c.in-Return.is (c.answer.ensures blocks)

pub returns-in-Jump : goal.returns-in-Jump
returns-in-Jump c = λ blocks p.
    by_end c.args.self.now blocks c.args.end.now (end.Jump c.in-Jump.target) _ c.in-Jump.is (jumped c.args.self.now blocks c.in-Jump.target c.at.result (c.at.ensures ∙ p c.in-Jump.target))

pub returns-in-Branch : goal.returns-in-Branch
returns-in-Branch c = λ blocks p.
    by_end c.args.self.now blocks c.args.end.now (end.Branch c.in-Branch.condition c.in-Branch.if_true c.in-Branch.if_false) _ c.in-Branch.is
    (branched c.args.self.now blocks c.in-Branch.condition c.in-Branch.if_true c.in-Branch.if_false c.at-first.result c.at-second.result c.source-condition.result c.source-condition.ensures
    (c.at-first.ensures ∙ p c.in-Branch.if_true) (c.at-second.ensures ∙ p c.in-Branch.if_false))

pub returns-in_ok-cases-in-Switch : goal.returns-in_ok-cases-in-Switch
returns-in_ok-cases-in-Switch c = λ blocks p.
    by_end c.args.self.now blocks c.args.end.now (end.Switch c.in-Switch.width c.in-Switch.value c.in-Switch.default c.in-Switch.cases) _ c.in-Switch.is
    (switched c.args.self.now blocks c.in-Switch.width c.in-Switch.value c.in-Switch.default c.at-default.result c.in-Switch.cases c.in_ok-cases-in-Switch.cases c.source-value.result c.source-value.ensures
    (c.at-default.ensures ∙ p c.in-Switch.default)
    (subst (λ (cs : List Case). AllZip (IsCase blocks) cs c.in_ok-cases-in-Switch.cases.items) c.as_slice.ensures (c.in_ok-cases-in-Switch.ensures blocks p)))

pub returns-in-Unreachable : goal.returns-in-Unreachable
returns-in-Unreachable c = λ blocks p. by_end c.args.self.now blocks c.args.end.now end.Unreachable _ c.in-Unreachable.is (unreached c.args.self.now blocks)
