-- What is known of the control flow of modules, one behind another.
use Rattle.std.proofs.Common.{◌≡◌, ℕ, zero, suc, List, [], ◌∷◌, ◌++◌, Option, Some, length, ap, refl, subst}
use Rattle.ir_tree.specs.declared.module.Module.{Module}
use Rattle.ir_flow.specs.OfFunction.{AreFlows, AreModuleFlows}
use Rattle.ir_flow.specs.declared.flow.Flow.{Flow}
use Rattle.merge_meaning.proofs.Looked.{some_is}

same_flows : (m h : Module) (known flows : List (Option Flow)) → m ≡ h → known ≡ flows → AreFlows m.globals known → AreFlows h.globals flows
same_flows m h known flows e d are = subst (λ (all : List (Option Flow)). AreFlows h.globals all) d (subst (λ (n : Module). AreFlows n.globals known) e are)

-- one module more
pub module_flows_pushed : (ms : List Module) (all : List (List (Option Flow))) (m : Module) (known : List (Option Flow)) → length all ≡ length ms → AreModuleFlows ms all → AreFlows m.globals known
    → AreModuleFlows (ms ++ m ∷ []) (all ++ known ∷ [])
module_flows_pushed [] [] m known long before here zero h flows got told = same_flows m h known flows (some_is m h got) (some_is known flows told) here
module_flows_pushed [] [] m known long before here (suc k) h flows got told = absurd (cc got)
module_flows_pushed [] (a ∷ all) m known long before here k h flows got told = absurd (cc long)
module_flows_pushed (g ∷ ms) [] m known long before here k h flows got told = absurd (cc long)
module_flows_pushed (g ∷ ms) (a ∷ all) m known long before here zero h flows got told = before zero h flows got told
module_flows_pushed (g ∷ ms) (a ∷ all) m known long before here (suc k) h flows got told =
    module_flows_pushed ms all m known (cc long) (λ j. before (suc j)) here k h flows got told

pub one_more : {A B : Type 0} (as' : List A) (bs : List B) (a : A) (b : B) → length as' ≡ length bs → length (as' ++ a ∷ []) ≡ length (bs ++ b ∷ [])
one_more [] [] a b long = refl
one_more [] (y ∷ bs) a b long = absurd (cc long)
one_more (x ∷ as') [] a b long = absurd (cc long)
one_more (x ∷ as') (y ∷ bs) a b long = ap suc (one_more as' bs a b (cc long))
