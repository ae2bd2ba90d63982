use Rattle.std.proofs.Common.{arith}
use Rattle.machine_code.specs.Sources.{IsTyped}
use Rattle.machine_code.proofs.Zips.{zip_pushed, zip_start, zip_whole}
use Rattle.machine_code.proofs.addresses.Addresses.all_typed.Goals as goal

pub loop-argument-init : goal.loop-argument-init
loop-argument-init c = zip_start (IsTyped c.args.self.now) c.args.arguments.now c.in_ok-all.all.items c.in_ok-all.ensures.items

pub loop-argument-preserved : goal.loop-argument-preserved
loop-argument-preserved c =
    zip_pushed (IsTyped c.args.self.now) c.args.arguments.now c.loop-argument.all.items _ c.loop-argument.argument-index c.argument-item.result c.typed.result
    c.loop-argument-test.true c.argument-item.is c.loop-argument.invariant c.typed.ensures c.in_ok-push.ensures.items

pub returns : goal.returns
returns c = zip_whole (IsTyped c.args.self.now) c.args.arguments.now c.loop-argument.all.items c.loop-argument.argument-index (omega arith) c.loop-argument.invariant
