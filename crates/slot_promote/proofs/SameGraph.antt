-- Slots become values over the same edges.
use Rattle.std.proofs.Common.{◌≡◌, ◌∙◌, ℕ, Bool, List, length, sym, ap, subst}
use Rattle.std.proofs.lemmas.List.{length-map}
use Rattle.ir_tree.specs.declared.function.Function.{Function}
use Rattle.ir_flow.specs.OfFunction.{IsGraphOf, IsReach}
use Rattle.slot_promote.specs.Promoted.{next_number, promoted_function}
use Rattle.promotable_slots.specs.Slots.{promoted_slots}
use Rattle.ir_flow.proofs.Reaching.{graph_stays, reach_stays}
use Rattle.slot_promote.proofs.Shapes.{edges_stay, numbers_stay}

module _ (f g : Function) (is : g ≡ promoted_function f) where
  long : length (promoted_function f).blocks ≡ length f.blocks
  long =
      sym (length-map (promoted_function f).blocks (λ b. b.number))
      ∙ ap length (numbers_stay f (promoted_slots f) (next_number f))
      ∙ length-map f.blocks (λ b. b.number)

  pub promoted_graph : (graph : List (List ℕ)) → IsGraphOf f graph → IsGraphOf g graph
  promoted_graph graph of =
      subst (λ (h : Function). IsGraphOf h graph) (sym is) (graph_stays f (promoted_function f) graph long (edges_stay f (promoted_slots f) (next_number f)) of)

  pub promoted_reach : (reached : List Bool) → IsReach f reached → IsReach g reached
  promoted_reach reached reach =
      subst (λ (h : Function). IsReach h reached) (sym is) (reach_stays f (promoted_function f) reached long (edges_stay f (promoted_slots f) (next_number f)) reach)
