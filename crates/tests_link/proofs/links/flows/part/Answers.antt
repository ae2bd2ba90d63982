use Rattle.std.proofs.Common.{◌≡◌, ◌∙◌, ℕ, zero, suc, List, [], ◌∷◌, Option, Some, subst, sym}
use Rattle.ir_tree.specs.declared.module.Module.{Module}
use Rattle.ir_flow.specs.OfFunction.{AreFlows, AreModuleFlows}
use Rattle.ir_flow.specs.declared.flow.Flow.{Flow}
use Rattle.tests_link.proofs.links.flows.part.Goals as goal
use Rattle.merge_meaning.proofs.Looked.{some_is}

one_module : (m : Module) (known : List (Option Flow)) → AreFlows m.globals known → AreModuleFlows (m ∷ []) (known ∷ [])
one_module m known are zero h flows got told =
    subst (λ (all : List (Option Flow)). AreFlows h.globals all) (some_is known flows told) (subst (λ (n : Module). AreFlows n.globals known) (some_is m h got) are)
one_module m known are (suc k) h flows got told = absurd (cc got)

pub parts-requires-clause-flows : goal.parts-requires-clause-flows
parts-requires-clause-flows c =
    subst (λ (ms : List Module). AreModuleFlows ms c.in-Ok.flows.items) (sym c.from_ref-modules.ensures.value)
    (subst (λ (all : List (List (Option Flow))). AreModuleFlows (c.args.verified.now ∷ []) all) (sym c.in-Ok.ensures.items)
    (one_module c.args.verified.now c.args.known c.requires))
