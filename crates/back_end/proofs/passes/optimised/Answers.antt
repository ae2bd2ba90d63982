use Rattle.std.proofs.Common.{subst, sym}
use Rattle.ir_tree.specs.declared.function.Function.{Function}
use Rattle.ir_flow.specs.OfFunction.{IsFlowOf}
use Rattle.back_end.proofs.Known.{still_known}
use Rattle.back_end.proofs.passes.optimised.Goals as goal

pub promoted_over-requires-clause-flow : goal.promoted_over-requires-clause-flow
promoted_over-requires-clause-flow c =
    still_known (λ w. IsFlowOf c.args.f w.now) (λ w. IsFlowOf c.in_ok-walked.walked w.now) c.in_ok-walked.changed c.args.flow c.still.result
    (λ unchanged w is. subst (λ (g : Function). IsFlowOf g w.now) (sym (c.in_ok-walked.ensures.same unchanged)) is) c.requires.flow c.still.ensures
