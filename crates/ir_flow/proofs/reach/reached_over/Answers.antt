use Rattle.std.proofs.Common.{ℕ, subst, arith}
use Rattle.std.proofs.lemmas.Result.{IfOk-weaker}
use Rattle.ir_tree.specs.declared.function.Function.{Function}
use Rattle.ir_flow.specs.Graph.{IsInverse}
use Rattle.ir_flow.specs.OfFunction.{IsGraphOf, IsReach}
use Rattle.ir_flow.proofs.Reaching.{reach, no-reach, turned-inside}
use Rattle.ir_flow.proofs.reach.reached_over.Goals as goal

pub searched-requires-clause-inside : goal.searched-requires-clause-inside
searched-requires-clause-inside c =
    turned-inside c.args.edges.now c.in_ok-targets.targets (subst (λ (n : ℕ). IsInverse c.args.edges.now n c.in_ok-targets.targets) c.len-2.ensures c.in_ok-targets.ensures)

pub returns-then-len-eq0 : goal.returns-then-len-eq0
returns-then-len-eq0 c =
    IfOk-weaker c.new.result _ (λ reached. (f : Function) → IsGraphOf f c.args.edges.now → IsReach f reached)
    (λ r e f is. no-reach f c.args.edges.now is (omega (arith, c.len.ensures, c.if-len-eq0.true)) r e) c.new.ensures

pub returns : goal.returns
returns c f is =
    let o = c.in_ok-reached.field-0 in
    reach f c.args.edges.now c.in_ok-targets.targets is
    (subst (λ (n : ℕ). IsInverse c.args.edges.now n c.in_ok-targets.targets) c.len-2.ensures c.in_ok-targets.ensures)
    o.blocks.items o.parents.items o.numbers.items o.reached c.in_ok-reached.ensures.order c.in_ok-reached.ensures.reached.0 c.in_ok-reached.ensures.reached.1
