use Rattle.std.proofs.Common.{◌++◌, ◌-◌, length, take, drop, refl}
use Rattle.std.specs.Prelude.{codes}
use Rattle.ir_tree.specs.declared.function.Param.{Param}
use Rattle.ir_print.specs.Tokens.{tight, space, comma, local}
use Rattle.ir_print.specs.Functions as functions
use Rattle.ir_print.proofs.Written.{first_left, each_led, led_by_register, all_on}
use Rattle.ir_print.proofs.function.put_params.Goals as goal

pub each-init : goal.each-init
each-init c = first_left (functions.param tight) functions.further_params functions.params (λ y ys. refl) c.args.list.now _ _ c.in-len1-up.len_at_least refl _ _ c.in_ok-param-in-len1-up.ensures

pub each-preserved : goal.each-preserved
each-preserved c =
    let rest = take (length c.args.list.now - 1) (drop 1 c.args.list.now) in
    each_led (functions.param (codes ", ")) (λ (p : Param). comma ++ functions.param space p) functions.further_params (λ p. led_by_register (codes ",") p.reg (local space p.local)) (λ y ys. refl)
    rest c.each.p-index _ _ c.each-test.true refl _ _ _ c.each.invariant c.in_ok-param-in-len1-up-2.ensures

pub returns-after-each : goal.returns-after-each
returns-after-each c =
    let rest = take (length c.args.list.now - 1) (drop 1 c.args.list.now) in
    all_on functions.further_params refl rest c.each.p-index c.each-test.false _ _ _ c.each.invariant
