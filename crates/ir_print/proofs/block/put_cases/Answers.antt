use Rattle.std.proofs.Common.{◌++◌, get_or, refl}
use Rattle.ir_print.specs.Tokens.{comma}
use Rattle.ir_print.specs.Blocks as blocks
use Rattle.ir_print.proofs.Written.{each_on, then_wrote, respelt, all_on}
use Rattle.ir_print.proofs.block.put_cases.Goals as goal

pub each-preserved : goal.each-preserved
each-preserved c =
    each_on blocks.switch_case blocks.cases (λ y ys. refl) c.args.list.now c.each.c-index (get_or c.args.list.now c.each.c-index _) _ c.each-test.true refl _ _ _ c.each.invariant
    (then_wrote _ _ _ _ _ c.in_ok-register.ensures (then_wrote _ _ _ _ _ c.in_ok-number.ensures (respelt _ (comma ++ blocks.target _) _ _ refl c.in_ok-local.ensures)))

pub returns : goal.returns
returns c = all_on blocks.cases refl c.args.list.now c.each.c-index c.each-test.false _ _ _ c.each.invariant
