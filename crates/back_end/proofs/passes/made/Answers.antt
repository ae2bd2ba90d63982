use Rattle.std.proofs.Common.{subst, sym}
use Rattle.ir_tree.specs.declared.function.Function.{Function}
use Rattle.std.specs.Prelude.{IfSome}
use Rattle.ir_flow.specs.OfFunction.{IsFlowOf}
use Rattle.back_end.proofs.passes.made.Goals as goal

pub optimised-requires-clause-flow : goal.optimised-requires-clause-flow
optimised-requires-clause-flow c = subst (λ (f : Function). IfSome c.args.flow (λ w. IsFlowOf f w.now)) (sym c.in_ok-copy.ensures) c.requires.flow
