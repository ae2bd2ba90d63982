use Rattle.back_end.specs.Walking.{bodies_in}
use Rattle.back_end.proofs.Turning.{idle_walks, three_walks}
use Rattle.back_end.proofs.passes.walks.Goals as goal

pub returns-then-not-changed : goal.returns-then-not-changed
returns-then-not-changed c = record {
  walks = idle_walks 2 (bodies_in c.args.bodies.now) c.args.f c.in_ok-once.once (c.in_ok-once.ensures.same c.if-not-changed.true) c.in_ok-once.ensures.walk;
  sound = c.in_ok-once.ensures.sound;
  same = λ none. c.in_ok-once.ensures.same c.if-not-changed.true;
}

pub returns : goal.returns
returns c = record {
  walks = three_walks (bodies_in c.args.bodies.now) c.args.f c.in_ok-once.once c.in_ok-g.g c.in_ok-once.ensures.walk c.in_ok-g.ensures.walks;
  sound = c.in_ok-g.ensures.sound;
  same = λ none. absurd (cc none);
}
