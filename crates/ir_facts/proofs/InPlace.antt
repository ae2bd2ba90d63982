-- Rounds where no unreached block gives a local a value and nothing rests on a free choice: each use replaced, block by block.
use Rattle.std.proofs.Common.{◌≡◌, ℕ, Bool, false, List, map, sym, subst}
use Rattle.ir_tree.specs.Rules.{Sound}
use Rattle.ir_tree.specs.declared.block.Block.{Block}
use Rattle.ir_tree.specs.declared.function.Function.{Function}
use Rattle.ir_tree.specs.Edited.{block_edited}
use Rattle.ir_edit.specs.Substituted.{operand_replaced, replacement}
use Rattle.fact_sources.specs.Apart.{IsApart}
use Rattle.fact_sources.proofs.NoneResting.{none_rest}
use Rattle.ir_facts.specs.Candidates.{blocks_candidates, candidates}
use Rattle.ir_facts.specs.Settled.{any_choice_in}
use Rattle.ir_facts.proofs.Kept.{nothing_settled}
use Rattle.ir_facts.specs.Blocks.{with_blocks}
use Rattle.ir_facts.specs.Steps.{AreRounds, IsRound, IsStep, candidate_of, step_of}
use Rattle.fact_sources.proofs.Staying.{params_stay}
use Rattle.ir_facts.proofs.InRounds.{last_round}
use Rattle.ir_facts.proofs.Parting.{step_everywhere}

-- the blocks with each use replaced are the function's
replaced_is : (f : Function) (bs new : List Block) → new ≡ map (block_edited (λ x. x) (operand_replaced (replacement (blocks_candidates bs)))) bs
    → with_blocks f new ≡ step_of (with_blocks f bs)
replaced_is f bs new e = λ i. record f { params = params_stay f.params i; blocks = e i }

module _ (among : ℕ → Bool) (none : (x : ℕ) → among x ≡ false) (f : Function) (bs new : List Block) (sound : Sound (with_blocks f bs)) (apart : IsApart (with_blocks f bs) among)
    (firm : any_choice_in bs ≡ false) (is : new ≡ map (block_edited (λ x. x) (operand_replaced (replacement (blocks_candidates bs)))) bs) where
  pub place_round : IsRound (with_blocks f bs) (with_blocks f new)
  place_round =
      let here = with_blocks f bs in
      subst (λ (h : Function). IsStep (candidate_of h) h (with_blocks f new)) (nothing_settled here firm)
      (subst (IsStep (candidate_of here) here) (sym (replaced_is f bs new is)) (step_everywhere here sound among apart (none_rest among none (candidates here))))

  pub place_last : (n : ℕ) → new ≡ bs → AreRounds n (with_blocks f bs) (with_blocks f new)
  place_last n same =
      let here = with_blocks f bs in
      let stays = subst (λ (cs : List Block). IsRound here (with_blocks f cs)) same place_round in
      subst (λ (cs : List Block). AreRounds n here (with_blocks f cs)) (sym same) (last_round n here stays)
