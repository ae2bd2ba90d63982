use Rattle.std.proofs.Common.{◌++◌, refl}
use Rattle.ir_print.specs.Tokens.{mark, space}
use Rattle.ir_print.specs.Blocks as blocks
use Rattle.ir_print.specs.Instructions as instructions
use Rattle.ir_print.proofs.Written.{each_on, then_wrote, respelt, all_on}
use Rattle.ir_print.proofs.block.put_phis.Goals as goal

pub each-preserved : goal.each-preserved
each-preserved c =
    let p = c.p-item.result in
    each_on blocks.phi_line blocks.phis (λ y ys. refl) c.args.list.now c.each.p-index p _ c.each-test.true c.p-item.is _ _ _ c.each.invariant
    (then_wrote _ _ _ _ _ c.in_ok-local.ensures (respelt _ (mark space 61 ++ instructions.phi space p.reg p.incoming) _ _ refl (rw c.as_slice.ensures at c.in_ok-phi.ensures)))

pub returns : goal.returns
returns c = all_on blocks.phis refl c.args.list.now c.each.p-index c.each-test.false _ _ _ c.each.invariant
