use Rattle.std.proofs.Common.{◌++◌, ◌-◌, length, take, drop, refl}
use Rattle.ir_tree.specs.declared.instr.Incoming.{Incoming}
use Rattle.ir_print.specs.Tokens.{comma}
use Rattle.ir_print.specs.Instructions as instructions
use Rattle.ir_print.proofs.Written.{first_left, each_on, then_wrote, all_on}
use Rattle.ir_print.proofs.instruction.all_incoming.Goals as goal

pub each-init : goal.each-init
each-init c = first_left instructions.incoming instructions.further_incoming instructions.all_incoming (λ y ys. refl) c.args.list.now c.first-item.result _ c.in-len1-up.len_at_least c.first-item.is _ _ c.in_ok-put_incoming-in-len1-up.ensures

pub each-preserved : goal.each-preserved
each-preserved c =
    let rest = take (length c.args.list.now - 1) (drop 1 c.args.list.now) in
    each_on (λ (i : Incoming). comma ++ instructions.incoming i) instructions.further_incoming (λ y ys. refl) rest c.each.i-index c.i-item.result _ c.each-test.true c.i-item.is _ _ _ c.each.invariant
    (then_wrote _ _ _ _ _ c.in_ok-mark-in-len1-up.ensures c.in_ok-put_incoming-in-len1-up-2.ensures)

pub returns-after-each : goal.returns-after-each
returns-after-each c =
    let rest = take (length c.args.list.now - 1) (drop 1 c.args.list.now) in
    all_on instructions.further_incoming refl rest c.each.i-index c.each-test.false _ _ _ c.each.invariant
