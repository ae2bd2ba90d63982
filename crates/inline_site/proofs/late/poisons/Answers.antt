use Rattle.inline_site.proofs.Backwards.{poisons_before}
use Rattle.inline_site.proofs.late.poisons.Goals as goal

pub loop-place-preserved : goal.loop-place-preserved
loop-place-preserved c =
    poisons_before c.args.lost.now c.loop-place.place _ c.loop-place.poisons.items c.push.new.self.items c.loop-place-test.true c.loop-place.auto.place c.loop-place.invariant c.in_ok-push.ensures.items
