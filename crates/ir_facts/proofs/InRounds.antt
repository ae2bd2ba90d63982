-- Rounds of substitution: what they make of sound functions, and that they replace every use where all blocks are reached.
use Rattle.std.proofs.Common.{◌≡◌, ℕ, zero, suc, ◌-◌, ◌<◌, List, [], ◌∷◌, refl, sym, subst, arith, lit≤}
use Rattle.std.proofs.lemmas.Option.{slice_get_within}
use Rattle.std.proofs.lemmas.List.{length-map}
use Rattle.ir_tree.specs.Flow.{Among, Path}
use Rattle.ir_tree.specs.Rules.{Sound}
use Rattle.ir_tree.specs.declared.function.Function.{Function}
use Rattle.ir_tree.specs.declared.operand.Operand.{Operand}
use Rattle.ir_meaning.specs.Near.{BetterThan}
use Rattle.ir_meaning.specs.Program.{Program}
use Rattle.ir_meaning.specs.Formed.{IsFormed}
use Rattle.ir_meaning.proofs.Alike.Itself.{same_better}
use Rattle.ir_meaning.proofs.Between.InARow.{in_a_row}
use Rattle.ir_tree.specs.Edited.{edited}
use Rattle.ir_edit.specs.Substituted.{operand_replaced, replacement}
use Rattle.ir_facts.specs.Candidates.{candidates}
use Rattle.ir_facts.specs.Settled.{settled}
use Rattle.ir_facts.specs.Steps.{AllReached, AreRounds, IsRound, IsStep, RoundsAreAll, RoundsAreBetter, SettledIsBetter, candidate_of, round_of, rounds_of, step_of}
use Rattle.ir_facts.proofs.AnySolution.{steps_better}
use Rattle.ir_facts.proofs.Covering.{covered}
use Rattle.ir_facts.proofs.Editing.{block_by, edges_same}
use Rattle.ir_facts.proofs.Holding.{one_step as all_step}
use Rattle.ir_facts.proofs.Passing.{sources_safe}
use Rattle.ir_facts.proofs.SettledBetter.{settled_better}
use Rattle.ir_facts.proofs.SettledSound.{settled_sound}
use Rattle.ir_facts.proofs.Settling.{is_settled, reached_settled}
use Rattle.ir_facts.proofs.Sourcing.{are_sources}
use Rattle.ir_facts.proofs.StepsSound.{steps_sound}

-- ---- reached blocks stay

module _ (h : Operand → Operand) (f : Function) where
  path_stays : (ps : List ℕ) (b : ℕ) → Path f ps b → Path (edited (λ x. x) h f) ps b
  path_stays [] b path = (path.0, subst (λ (n : ℕ). b < n) (sym (length-map f.blocks (block_by h))) path.1)
  path_stays (p ∷ ps) b path = (subst (Among p) (sym (edges_same h f b)) path.0, path_stays ps p path.1)

  pub reached_stays : AllReached f → AllReached (edited (λ x. x) h f)
  reached_stays all b lt =
      let way = all b (subst (λ (n : ℕ). b < n) (length-map f.blocks (block_by h)) lt) in
      (way.0, path_stays way.0 b way.1)

-- ---- one round

-- where all blocks are reached, a step replaces each use
everywhere : (f : Function) → Sound f → AllReached f → IsStep (candidate_of f) f (step_of f)
everywhere f sound all =
    let found = covered f sound in
    let src = are_sources found.family f found.held in
    all_step (replacement (candidates f)) found.family f found.held src
    (sources_safe (replacement (candidates f)) found.family f found.held src (λ x z p b is e h. all p (slice_get_within f.blocks p b e)))

pub settled_is_better : SettledIsBetter
settled_is_better f sound = (settled_sound f sound, is_settled f, settled_better f)

rounds_all : (n : ℕ) (f : Function) → Sound f → AllReached f → AreRounds n f (rounds_of n f)
unfolding AreRounds rounds_of
rounds_all zero f sound all = refl
rounds_all (suc n) f sound all =
    let reached = reached_settled f all in
    let round = everywhere (settled f) (settled_sound f sound) reached in (
      round_of f,
      round,
      rounds_all n (round_of f) (steps_sound (settled f) (round_of f) (settled_sound f sound) round)
          (reached_stays (operand_replaced (replacement (candidates (settled f)))) (settled f) reached),
    )

pub are_all : RoundsAreAll
are_all n f sound all = rounds_all n f sound all

pub round_sound : (f g : Function) → Sound f → IsRound f g → Sound g
round_sound f g sound round = steps_sound (settled f) g (settled_sound f sound) round

round_better : (f g : Function) → Sound f → IsRound f g → (p : Program) → IsFormed p → BetterThan p 1 g f
round_better f g sound round p formed =
    in_a_row p formed 1 1 (lit≤ tt) g (settled f) f (steps_better (settled f) g (settled_sound f sound) (is_settled f) round p formed) (settled_better f p formed)

pub are_better : RoundsAreBetter
unfolding AreRounds
are_better zero f g sound e = (subst Sound (sym e) sound, (λ p formed. subst (λ (h : Function). BetterThan p 1 h f) (sym e) (same_better p formed f)))
are_better (suc n) f g sound (h, round, rest) =
    let more = are_better n h g (round_sound f h sound round) rest in (
      more.0,
      (λ p formed. in_a_row p formed 1 1 (lit≤ tt) g h f (more.1 p formed) (round_better f h sound round p formed)),
    )

-- ---- rounds, one after another

-- behind a round that changes nothing none changes anything
pub last_round : (n : ℕ) (f : Function) → IsRound f f → AreRounds n f f
unfolding AreRounds
last_round zero f round = refl
last_round (suc n) f round = (f, round, last_round n f round)

pub one_more : (n : ℕ) (f g h : Function) → 0 < n → IsRound f g → AreRounds (n - 1) g h → AreRounds n f h
unfolding AreRounds
one_more zero f g h some round rest = absurd (omega (arith, some))
one_more (suc n) f g h some round rest = let one : suc n - 1 ≡ n = omega arith in (g, round, subst (λ (m : ℕ). AreRounds m g h) one rest)

pub no_rounds : (n : ℕ) (f : Function) → n ≡ 0 → AreRounds n f f
unfolding AreRounds
no_rounds zero f e = refl
no_rounds (suc n) f e = absurd (omega (arith, e))
