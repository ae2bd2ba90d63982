use Rattle.std.proofs.Common.{arith}
use Rattle.machine_code.specs.Programs.{IsEntityFor}
use Rattle.machine_code.proofs.Zips.{zip_pushed, zip_start, zip_whole}
use Rattle.machine_code.proofs.symbol.entities.Goals as goal

pub loop-global-init : goal.loop-global-init
loop-global-init c = zip_start IsEntityFor c.args.globals.now c.in_ok-all.all.items c.in_ok-all.ensures.items

pub loop-global-preserved : goal.loop-global-preserved
loop-global-preserved c =
    zip_pushed IsEntityFor c.args.globals.now c.loop-global.all.items _ c.loop-global.global-index c.global-item.result c.in_ok-made.made
    c.loop-global-test.true c.global-item.is c.loop-global.invariant c.in_ok-made.ensures c.in_ok-push.ensures.items

pub returns : goal.returns
returns c = zip_whole IsEntityFor c.args.globals.now c.loop-global.all.items c.loop-global.global-index (omega arith) c.loop-global.invariant
