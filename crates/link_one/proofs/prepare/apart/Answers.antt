use Rattle.std.proofs.Common.{◌≡◌, ◌∙◌, ◌∷◌, ◌++◌, [], List, Option, length, subst, sym}
use Rattle.ir_flow.specs.OfFunction.{AreModuleFlows}
use Rattle.ir_flow.specs.declared.flow.Flow.{Flow}
use Rattle.link_one.proofs.Flowing.{module_flows_pushed, one_more}
use Rattle.link_one.proofs.prepare.apart.Goals as goal

pub loop-module-preserved : goal.loop-module-preserved
loop-module-preserved c = record {
  modules = c.in_ok-push.ensures.items ∙ λ i. c.loop-module.invariant.modules i ++ c.into_parts-verified.ensures.module i ∷ [];
  count = subst (λ (all : List (List (Option Flow))). length all ≡ length (c.loop-module.yielded ++ c.in-Some.module ∷ [])) (sym c.in_ok-push-2.ensures.items)
      (one_more c.loop-module.flows.items c.loop-module.yielded c.into_parts-verified.result.1 c.in-Some.module c.loop-module.invariant.count);
  flows = subst (λ (all : List (List (Option Flow))). AreModuleFlows (c.loop-module.yielded ++ c.in-Some.module ∷ []) all) (sym c.in_ok-push-2.ensures.items)
      (module_flows_pushed c.loop-module.yielded c.loop-module.flows.items c.in-Some.module c.into_parts-verified.result.1 c.loop-module.invariant.count c.loop-module.invariant.flows c.into_parts-verified.ensures.flows);
}
