use Rattle.std.proofs.Common.{◌++◌, refl}
use Rattle.std.specs.Prelude.{codes}
use Rattle.ir_tree.specs.declared.operand.Argument.{Argument}
use Rattle.ir_print.specs.Tokens.{comma, space}
use Rattle.ir_print.specs.Operands as operands
use Rattle.ir_print.proofs.Written.{each_led, led_by_register, all_on}
use Rattle.ir_print.proofs.operand.further_typed.Goals as goal

pub each-preserved : goal.each-preserved
each-preserved c =
    each_led (λ (a : Argument). operands.typed (codes ", ") a.reg a.operand) (λ (a : Argument). comma ++ operands.typed space a.reg a.operand) operands.further_typed (λ a. led_by_register (codes ",") a.reg (operands.operand space a.operand)) (λ y ys. refl)
    c.args.list.now c.each.a-index c.a-item.result _ c.each-test.true c.a-item.is _ _ _ c.each.invariant c.in_ok-typed.ensures

pub returns : goal.returns
returns c = all_on operands.further_typed refl c.args.list.now c.each.a-index c.each-test.false _ _ _ c.each.invariant
