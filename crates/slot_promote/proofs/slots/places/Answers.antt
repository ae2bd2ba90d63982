use Rattle.std.proofs.Common.{nat_eq}
use Rattle.std.specs.HashMap.{get}
use Rattle.slot_promote.proofs.Loops.{placed_before}
use Rattle.slot_promote.proofs.slots.places.Goals as goal

pub loop-rank-preserved : goal.loop-rank-preserved
loop-rank-preserved c =
    placed_before c.args.list.now c.loop-rank.rank _ (get nat_eq c.loop-rank.places) (get nat_eq c.insert.new.self) c.loop-rank-test.true c.loop-rank.auto.rank c.loop-rank.invariant c.in_ok-insert.ensures.updates.0
