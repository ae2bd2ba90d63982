use Rattle.back_end.proofs.Turning.{idle_turns, two}
use Rattle.back_end.proofs.passes.two_turns.Goals as goal

pub returns-then-not-changed : goal.returns-then-not-changed
returns-then-not-changed c = idle_turns 1 c.args.f c.in_ok-once.once (c.in_ok-once.ensures.same c.if-not-changed.true) c.in_ok-once.ensures.made

pub returns : goal.returns
returns c = two c.args.f c.in_ok-once.once c.in_ok-g.g c.in_ok-once.ensures.made c.in_ok-g.ensures.made
