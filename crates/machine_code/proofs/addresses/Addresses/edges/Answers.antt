use Rattle.std.proofs.Common.{arith}
use Rattle.machine_code.specs.Blocks.{IsEdge}
use Rattle.machine_code.proofs.Zips.{zip_pushed, zip_start, zip_whole}
use Rattle.machine_code.proofs.addresses.Addresses.edges.Goals as goal

pub loop-entry-init : goal.loop-entry-init
loop-entry-init c = zip_start (IsEdge c.args.self.now) c.args.incoming.now c.in_ok-edges.edges.items c.in_ok-edges.ensures.items

pub loop-entry-preserved : goal.loop-entry-preserved
loop-entry-preserved c =
    zip_pushed (IsEdge c.args.self.now) c.args.incoming.now c.loop-entry.edges.items _ c.loop-entry.entry-index c.entry-item.result c.edge.result
    c.loop-entry-test.true c.entry-item.is c.loop-entry.invariant c.edge.ensures c.in_ok-push.ensures.items

pub returns : goal.returns
returns c = zip_whole (IsEdge c.args.self.now) c.args.incoming.now c.loop-entry.edges.items c.loop-entry.entry-index (omega arith) c.loop-entry.invariant
