-- A step leaves edges, which blocks are reached, and what the others define.
use Rattle.std.proofs.Common.{◌≡◌, ℕ, zero, suc, Bool, true, false, List, [], ◌∷◌, ◌++◌, Option, refl, sym, ◌∙◌, ap, subst}
use Rattle.lto_sets.specs.Sets.{contains}
use Rattle.ir_tree.specs.declared.block.Block.{Block}
use Rattle.ir_tree.specs.declared.function.Function.{Function}
use Rattle.ir_tree.specs.declared.instr.Line.{Line}
use Rattle.ir_tree.specs.declared.instr.Phi.{Phi}
use Rattle.ir_tree.specs.declared.operand.Operand.{Operand}
use Rattle.ir_meaning.specs.Facts.{Facts, behind_local, block_replaced, blocks_replaced, function_replaced, lines_replaced, phis_replaced}
use Rattle.ir_edit.specs.Numbered.{line_numbers, local_number, phi_numbers}
use Rattle.ir_flow.specs.OfFunction.{IsGraphOf, IsReach}
use Rattle.fact_sources.specs.Apart.{IsApart, given_apart, given_where, is_listed}
use Rattle.ir_facts.specs.Settled.{settled}
use Rattle.ir_facts.specs.Steps.{AreRounds, IsRound, IsStep, candidate_of, ends_of}
use Rattle.ir_facts.proofs.Replaced.{edges_still, length_still}
use Rattle.ir_flow.proofs.Reaching.{graph_stays, reach_stays}
use Rattle.ir_facts.proofs.Settling.{apart_settled, graph_settled, reach_settled}

module _ (c : ℕ → Option Operand) (starts ends : ℕ → Facts) where
  phis_still : (ps : List Phi) → phi_numbers (phis_replaced ends ps) ≡ phi_numbers ps
  phis_still [] = refl
  phis_still (p ∷ ps) = ap (λ (xs : List ℕ). p.local ∷ xs) (phis_still ps)

  lines_still : (ls : List Line) (fs : Facts) → line_numbers (lines_replaced c fs ls) ≡ line_numbers ls
  lines_still [] fs = refl
  lines_still (l ∷ ls) fs = ap (λ (xs : List ℕ). local_number l.local ++ xs) (lines_still ls (behind_local c l.local fs))

  given_still : (t : Bool) (b : Block) → given_where t (block_replaced c starts ends b) ≡ given_where t b
  unfolding given_where
  given_still true b = refl
  given_still false b = λ i. phis_still b.phis i ++ lines_still b.lines (starts b.number) i

  apart_still : (inside : ℕ → Bool) (p : ℕ) (bs : List Block) → given_apart inside p (blocks_replaced c starts ends bs) ≡ given_apart inside p bs
  apart_still inside p [] = refl
  apart_still inside p (b ∷ bs) = λ i. given_still (inside p) b i ++ apart_still inside (suc p) bs i

  module _ (f : Function) where
    abbrev g : Function
    g = function_replaced c starts ends f

    pub reach_still : (s : List Bool) → IsReach f s → IsReach g s
    reach_still s reach = reach_stays f g s (length_still c starts ends f.blocks) (edges_still c starts ends f) reach

    pub graph_still : (graph : List (List ℕ)) → IsGraphOf f graph → IsGraphOf g graph
    graph_still graph is = graph_stays f g graph (length_still c starts ends f.blocks) (edges_still c starts ends f) is

    still_apart : (among : ℕ → Bool) → IsApart f among → IsApart g among
    still_apart among a = record {
      reached = a.reached;
      reach = reach_still a.reached a.reach;
      is = λ x. a.is x ∙ ap (is_listed x) (sym (apart_still (contains a.reached) 0 f.blocks));
    }

pub step_apart : (among : ℕ → Bool) (c : ℕ → Option Operand) (f g : Function) → IsStep c f g → IsApart f among → IsApart g among
step_apart among c f g step a =
    subst (λ (h : Function). IsApart h among) (sym (step.most step.starts step.solution (λ n x v h. h))) (still_apart c step.starts (ends_of c step.starts f) f among a)

pub round_apart : (among : ℕ → Bool) (f g : Function) → IsRound f g → IsApart f among → IsApart g among
round_apart among f g round a = step_apart among (candidate_of (settled f)) (settled f) g round (apart_settled f among a)

-- ---- which blocks are reached, by itself

pub step_reach : (s : List Bool) (c : ℕ → Option Operand) (f g : Function) → IsStep c f g → IsReach f s → IsReach g s
step_reach s c f g step reach =
    subst (λ (h : Function). IsReach h s) (sym (step.most step.starts step.solution (λ n x v h. h))) (reach_still c step.starts (ends_of c step.starts f) f s reach)

pub round_reach : (s : List Bool) (f g : Function) → IsRound f g → IsReach f s → IsReach g s
round_reach s f g round reach = step_reach s (candidate_of (settled f)) (settled f) g round (reach_settled f s reach)

pub rounds_reach : (n : ℕ) (s : List Bool) (f g : Function) → AreRounds n f g → IsReach f s → IsReach g s
unfolding AreRounds
rounds_reach zero s f g same reach = subst (λ (h : Function). IsReach h s) (sym same) reach
rounds_reach (suc n) s f g (h, round, more) reach = rounds_reach n s h g more (round_reach s f h round reach)

-- ---- and edges

step_graph : (graph : List (List ℕ)) (c : ℕ → Option Operand) (f g : Function) → IsStep c f g → IsGraphOf f graph → IsGraphOf g graph
step_graph graph c f g step is =
    subst (λ (h : Function). IsGraphOf h graph) (sym (step.most step.starts step.solution (λ n x v h. h))) (graph_still c step.starts (ends_of c step.starts f) f graph is)

pub round_graph : (graph : List (List ℕ)) (f g : Function) → IsRound f g → IsGraphOf f graph → IsGraphOf g graph
round_graph graph f g round is = step_graph graph (candidate_of (settled f)) (settled f) g round (graph_settled f graph is)

pub rounds_graph : (n : ℕ) (graph : List (List ℕ)) (f g : Function) → AreRounds n f g → IsGraphOf f graph → IsGraphOf g graph
unfolding AreRounds
rounds_graph zero graph f g same is = subst (λ (h : Function). IsGraphOf h graph) (sym same) is
rounds_graph (suc n) graph f g (h, round, more) is = rounds_graph n graph h g more (round_graph graph f h round is)
