use Rattle.std.proofs.Common.{◌∙◌}
use Rattle.slot_promote.specs.Tables.{current, place_in}
use Rattle.slot_promote.proofs.Loops.{passed}
use Rattle.slot_promote.proofs.values.Values.pass_all.Goals as goal

pub loop-line-preserved : goal.loop-line-preserved
loop-line-preserved c = λ x.
    passed (place_in c.args.slots.now) c.args.lines.now c.loop-line.line-index c.line-item.result (current (place_in c.args.slots.now) c.loop-line.self) (current (place_in c.args.slots.now) c.pass.new.self)
    c.loop-line-test.true c.line-item.is c.in_ok-pass.ensures x
    ∙ c.loop-line.invariant x
