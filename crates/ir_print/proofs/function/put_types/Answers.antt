use Rattle.std.proofs.Common.{◌++◌, ◌-◌, length, take, drop, refl}
use Rattle.std.specs.Prelude.{codes}
use Rattle.ir_tree.specs.declared.function.Param.{Param}
use Rattle.ir_print.specs.Tokens.{tight, space, comma}
use Rattle.ir_print.specs.Types.{register}
use Rattle.ir_print.specs.Functions as functions
use Rattle.ir_print.proofs.Written.{first_left, each_led, led_register, all_on}
use Rattle.ir_print.proofs.function.put_types.Goals as goal

pub each-init : goal.each-init
each-init c = first_left (λ (p : Param). register tight p.reg) functions.further_types functions.types (λ y ys. refl) c.args.list.now _ _ c.in-len1-up.len_at_least refl _ _ c.in_ok-register-in-len1-up.ensures

pub each-preserved : goal.each-preserved
each-preserved c =
    let rest = take (length c.args.list.now - 1) (drop 1 c.args.list.now) in
    each_led (λ (p : Param). register (codes ", ") p.reg) (λ (p : Param). comma ++ register space p.reg) functions.further_types (λ p. led_register (codes ",") p.reg) (λ y ys. refl)
    rest c.each.p-index _ _ c.each-test.true refl _ _ _ c.each.invariant c.in_ok-register-in-len1-up-2.ensures

pub returns-after-each : goal.returns-after-each
returns-after-each c =
    let rest = take (length c.args.list.now - 1) (drop 1 c.args.list.now) in
    all_on functions.further_types refl rest c.each.p-index c.each-test.false _ _ _ c.each.invariant
