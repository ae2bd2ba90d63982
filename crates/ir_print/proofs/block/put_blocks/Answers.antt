use Rattle.std.proofs.Common.{◌-◌, length, take, drop, refl}
use Rattle.ir_print.specs.Blocks as blocks
use Rattle.ir_print.proofs.Written.{first_left, each_on, then_wrote, all_on}
use Rattle.ir_print.proofs.block.put_blocks.Goals as goal

pub each-init : goal.each-init
each-init c = first_left blocks.content blocks.further_blocks blocks.blocks (λ y ys. refl) c.args.list.now c.entry-item.result _ c.in-len1-up.len_at_least c.entry-item.is _ _ c.in_ok-content-in-len1-up.ensures

pub each-preserved : goal.each-preserved
each-preserved c =
    let rest = take (length c.args.list.now - 1) (drop 1 c.args.list.now) in
    each_on blocks.labelled blocks.further_blocks (λ y ys. refl) rest c.each.b-index c.b-item.result _ c.each-test.true c.b-item.is _ _ _ c.each.invariant
    (then_wrote _ _ _ _ _ c.in_ok-label_line-in-len1-up.ensures c.in_ok-content-in-len1-up-2.ensures)

pub returns-after-each : goal.returns-after-each
returns-after-each c =
    let rest = take (length c.args.list.now - 1) (drop 1 c.args.list.now) in
    all_on blocks.further_blocks refl rest c.each.b-index c.each-test.false _ _ _ c.each.invariant
