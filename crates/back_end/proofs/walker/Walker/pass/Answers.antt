use Rattle.std.proofs.Common.{List, refl, subst, sym}
use Rattle.ir_tree.specs.declared.instr.Line.{Line}
use Rattle.back_end.specs.Walking.{IsBegun, bodies_in}
use Rattle.back_end.proofs.Ahead.{begun, ended_here}
use Rattle.back_end.proofs.walker.Walker.pass.Goals as goal

pub returns : goal.returns
returns c = λ f ahead same here.
    ended_here (bodies_in c.args.bodies.now) f c.pass_lines.new.self (record { caller = c.end.new.self; count = c.pass_lines.new.self.count }) c.pass_lines.new.block c.args.block.now.end ahead refl
    (c.in_ok-end.ensures.function f ahead) c.in_ok-end.ensures.ready c.in_ok-end.ensures.count
    (c.in_ok-pass_lines.ensures f c.args.block.now.end ahead same
    (subst (λ (ls : List Line). IsBegun (bodies_in c.args.bodies.now) f c.args.self.now c.in_ok-begun.begun ls c.args.block.now.end ahead) (sym c.as_slice.ensures)
    (begun (bodies_in c.args.bodies.now) f c.args.self.now c.in_ok-begun.begun c.args.block.now ahead c.in_ok-begun.ensures here)))
