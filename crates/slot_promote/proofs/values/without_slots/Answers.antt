use Rattle.slot_promote.specs.Tables.{current, place_in}
use Rattle.slot_promote.proofs.Loops.{line_pushed}
use Rattle.slot_promote.proofs.values.without_slots.Goals as goal

pub loop-line-preserved : goal.loop-line-preserved
loop-line-preserved c =
    line_pushed (place_in c.args.slots.now) c.args.lines.now c.loop-line.line-index c.line-item.result (current (place_in c.args.slots.now) c.loop-line.values) (current (place_in c.args.slots.now) c.pass.new.self) c.loop-line.rows c.push_line.new.rows _
    c.loop-line-test.true c.line-item.is c.in_ok-push_line.ensures c.in_ok-pass.ensures c.loop-line.invariant
