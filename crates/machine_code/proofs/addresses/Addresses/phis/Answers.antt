use Rattle.std.proofs.Common.{arith}
use Rattle.machine_code.specs.Blocks.{IsPhi}
use Rattle.machine_code.proofs.Zips.{zip_pushed, zip_start, zip_whole}
use Rattle.machine_code.proofs.addresses.Addresses.phis.Goals as goal

pub loop-phi-init : goal.loop-phi-init
loop-phi-init c = zip_start (IsPhi c.args.self.now) c.args.phis.now c.in_ok-all.all.items c.in_ok-all.ensures.items

pub loop-phi-preserved : goal.loop-phi-preserved
loop-phi-preserved c =
    zip_pushed (IsPhi c.args.self.now) c.args.phis.now c.loop-phi.all.items _ c.loop-phi.phi-index c.phi-item.result c.in_ok-lowered.lowered
    c.loop-phi-test.true c.phi-item.is c.loop-phi.invariant c.in_ok-lowered.ensures c.in_ok-push.ensures.items

pub returns : goal.returns
returns c = zip_whole (IsPhi c.args.self.now) c.args.phis.now c.loop-phi.all.items c.loop-phi.phi-index (omega arith) c.loop-phi.invariant
