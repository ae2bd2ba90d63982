use Rattle.std.proofs.Common.{None, ◌∙◌, refl}
use Rattle.ir_tree.specs.declared.operand.Argument.{Argument}
use Rattle.promotable_slots.specs.Uses.{argument_uses, operand_uses}
use Rattle.ir_edit.proofs.Stepping.{given_more}
use Rattle.promotable_slots.proofs.uses.push_arguments.Goals as goal

pub loop-argument-preserved : goal.loop-argument-preserved
loop-argument-preserved c =
    given_more (λ (a : Argument). operand_uses None a.operand) argument_uses (λ x xs. refl) c.args.arguments.now c.loop-argument.argument-index c.argument-item.result c.loop-argument.uses.items c.push_operand.new.uses.items c.loop-argument-test.true c.argument-item.is c.in_ok-push_operand.ensures
    ∙ c.loop-argument.invariant
