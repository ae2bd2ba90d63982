use Rattle.back_end.specs.Walking.{bodies_in}
use Rattle.back_end.proofs.passes.compile.Goals as goal

pub returns : goal.returns
returns c = record {
  made = c.in_ok-g.ensures;
  better = c.made_is_better.ensures.better (bodies_in c.args.bodies.now) c.args.f.now c.in_ok-g.g c.requires.sound c.requires.bodies c.in_ok-g.ensures;
  sound = c.made_is_better.ensures.sound (bodies_in c.args.bodies.now) c.args.f.now c.in_ok-g.g c.requires.sound c.requires.bodies c.in_ok-g.ensures;
}
