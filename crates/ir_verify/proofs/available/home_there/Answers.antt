use Rattle.std.proofs.Common.{arith, sym, subst, IsTrue, ◌↔◌}
use Rattle.std.specs.Prelude.{Bool}
use Rattle.ir_flow.specs.Dominating.{dominance}
use Rattle.ir_tree.specs.Flow.{AvailableAt}
use Rattle.ir_verify.proofs.Points.{elsewhere, in_home}
use Rattle.ir_verify.proofs.available.home_there.Goals as goal

pub returns-then-home-block : goal.returns-then-home-block
returns-then-home-block c = λ f x are once is.
    subst (λ (v : Bool). IsTrue v ↔ AvailableAt f c.args.block c.args.line x) (sym c.dominates.ensures)
    (elsewhere c.available_by_dominance.ensures f (dominance c.args.dominators.now) are once x c.args.home is c.args.block (omega (arith, c.requires.block, are.count)) c.args.line c.if-home-block.true)

pub returns : goal.returns
returns c = λ f x are once is.
    in_home c.available_by_dominance.ensures f (dominance c.args.dominators.now) are once x c.args.home is c.args.block (omega (arith, c.requires.block, are.count)) c.args.line (omega arith) (omega arith) c.reaches.result c.reaches.ensures
