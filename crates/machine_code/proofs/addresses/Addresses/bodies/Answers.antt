use Rattle.std.proofs.Common.{arith}
use Rattle.machine_code.specs.Programs.{IsBodyFor, IsSoundGlobal}
use Rattle.machine_code.proofs.Zips.{all_at, zip_pushed, zip_start, zip_whole}
use Rattle.machine_code.proofs.addresses.Addresses.bodies.Goals as goal

pub loop-global-init : goal.loop-global-init
loop-global-init c = zip_start (IsBodyFor c.args.self.now) c.args.globals.now c.in_ok-all.all.items c.in_ok-all.ensures.items

pub body-requires : goal.body-requires
body-requires c = all_at IsSoundGlobal c.args.globals.now c.loop-global.global-index c.global-item.result c.loop-global-test.true c.global-item.is c.requires

pub loop-global-preserved : goal.loop-global-preserved
loop-global-preserved c =
    zip_pushed (IsBodyFor c.args.self.now) c.args.globals.now c.loop-global.all.items _ c.loop-global.global-index c.global-item.result c.in_ok-made.made
    c.loop-global-test.true c.global-item.is c.loop-global.invariant c.in_ok-made.ensures c.in_ok-push.ensures.items

pub returns : goal.returns
returns c = zip_whole (IsBodyFor c.args.self.now) c.args.globals.now c.loop-global.all.items c.loop-global.global-index (omega arith) c.loop-global.invariant
