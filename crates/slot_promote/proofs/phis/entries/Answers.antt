use Rattle.std.proofs.Common.{◌<◌, length, get_or}
use Rattle.slot_promote.specs.Tables.{place_in}
use Rattle.slot_promote.proofs.Loops.{among_index, entry_pushed}
use Rattle.slot_promote.proofs.phis.entries.Goals as goal

pub bounds-ends-source : goal.bounds-ends-source
bounds-ends-source c = c.requires (get_or c.args.sources.now c.loop-source.source-index 0) (among_index c.args.sources.now c.loop-source.source-index c.loop-source-test.true)

pub loop-source-preserved : goal.loop-source-preserved
loop-source-preserved c =
    let inside : get_or c.args.sources.now c.loop-source.source-index 0 < length c.args.ends.now = c.requires (get_or c.args.sources.now c.loop-source.source-index 0) (among_index c.args.sources.now c.loop-source.source-index c.loop-source-test.true) in
    entry_pushed (place_in c.args.slots.now) c.args.ends.now c.args.local c.args.sources.now c.loop-source.source-index c.loop-source.rows c.push.new.self _ c.in_ok-entry.field-0 c.index-ends-source.result
    c.loop-source-test.true inside c.index-ends-source.is c.in_ok-entry.ensures c.in_ok-push.ensures.ok c.loop-source.invariant
