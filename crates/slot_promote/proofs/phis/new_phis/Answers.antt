use Rattle.std.proofs.Common.{◌<◌, length, arith}
use Rattle.slot_promote.specs.Tables.{ends_in, place_in}
use Rattle.slot_promote.proofs.Loops.{phi_pushed}
use Rattle.slot_promote.proofs.phis.new_phis.Goals as goal

pub loop-rank-preserved : goal.loop-rank-preserved
loop-rank-preserved c =
    let lt : c.loop-rank.rank < length c.args.slots.now.list.items = omega (arith, c.loop-rank-test.true, c.len-rank-end.ensures) in
    phi_pushed (ends_in (place_in c.args.slots.now) c.args.ends.now) c.args.sources.now c.in-Some.first c.loop-rank.rank c.args.slots.now.list.items c.loop-rank.phis c.push.new.self _ c.index-slot.result.now c.in_ok-local.local c.in_ok-incoming.incoming
    lt c.index-slot.ensures c.in_ok-local.ensures c.in_ok-incoming.ensures c.in_ok-push.ensures.ok c.loop-rank.invariant
