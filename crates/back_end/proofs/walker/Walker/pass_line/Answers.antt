use Rattle.back_end.specs.Walking.{bodies_in}
use Rattle.back_end.proofs.Ahead.{stayed, took}
use Rattle.back_end.proofs.walker.Walker.pass_line.Goals as goal

pub returns-in_ok-inline-in-Some : goal.returns-in_ok-inline-in-Some
returns-in_ok-inline-in-Some c = λ f lines end ahead same here.
    took (bodies_in c.args.bodies.now) f c.in-Some.call.callee.now c.args.symbol.now c.args.self.now c.inline.new.self c.args.block.now c.inline.new.block c.args.line.now lines end ahead same c.in-Some.ensures.takes
    (c.in_ok-inline-in-Some.ensures.step f lines end ahead) c.in_ok-inline-in-Some.ensures.count c.in_ok-inline-in-Some.ensures.done c.in_ok-inline-in-Some.ensures.lines here

pub returns-in_ok-push-in-None : goal.returns-in_ok-push-in-None
returns-in_ok-push-in-None c = λ f lines end ahead same here.
    stayed (bodies_in c.args.bodies.now) f c.args.symbol.now c.args.self.now c.args.block.now c.push.new.self c.args.line.now lines end ahead same c.in-None.ensures.takes c.in_ok-push-in-None.ensures here
