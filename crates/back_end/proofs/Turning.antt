-- A turn from its parts; three turns, and three walks, one after another.
use Rattle.std.proofs.Common.{◌≡◌, ◌∙◌, ◌||◌, ℕ, zero, suc, Bool, true, false, List, Option, refl, sym, subst}
use Rattle.std.proofs.lemmas.Bool.{false≢true}
use Rattle.ir_tree.specs.declared.function.Function.{Function}
use Rattle.block_trim.specs.Merged.{IsMergeOf}
use Rattle.block_trim.specs.Trimmed.{IsTrimOf}
use Rattle.branch_simplify.specs.Simplified.{simplified}
use Rattle.dead_code.specs.Least.{IsNeededOf}
use Rattle.ir_facts.specs.Steps.{IsApplied}
use Rattle.back_end.specs.Made.{AreTurns, IsTurn}
use Rattle.back_end.specs.Walk.{AreWalks, IsWalk}

pub turn_of : (f propagated g : Function) → IsApplied f propagated → (trimmed merged : Function) × IsTrimOf (simplified propagated) trimmed × IsMergeOf trimmed merged × IsNeededOf merged g → IsTurn f g
turn_of f propagated g facts (trimmed, merged, trim, merge, needed) = record {
  propagated = propagated;
  facts = facts;
  trimmed = trimmed;
  trim = trim;
  merged = merged;
  merge = merge;
  needed = needed;
}

-- where one of two steps may have changed the function they may have, and where neither has it is the same
pub unchanged : (first second : Bool) (f g h : Function) → (first ≡ false → g ≡ f) → (second ≡ false → h ≡ g) → (first || second) ≡ false → h ≡ f
unchanged true second f g h one other neither = absurd (false≢true (sym neither))
unchanged false second f g h one other neither = other neither ∙ one refl

-- a turn that changes nothing stands for any number of turns
pub idle_turns : (n : ℕ) (f g : Function) → g ≡ f → IsTurn f g → AreTurns (suc n) f g
unfolding AreTurns
idle_turns zero f g same turn = (g, turn, refl)
idle_turns (suc n) f g same turn = (g, turn, idle_turns n g g refl (subst (λ (h : Function). IsTurn h g) (sym same) turn))

-- and so does a walk
pub idle_walks : (n : ℕ) (bodies : List ℕ → Option Function) (f g : Function) → g ≡ f → IsWalk bodies f g → AreWalks (suc n) bodies f g
unfolding AreWalks
idle_walks zero bodies f g same walk = (g, walk, refl)
idle_walks (suc n) bodies f g same walk = (g, walk, idle_walks n bodies g g refl (subst (λ (h : Function). IsWalk bodies h g) (sym same) walk))

pub two : (f a b : Function) → IsTurn f a → IsTurn a b → AreTurns 2 f b
unfolding AreTurns
two f a b first second = (a, first, (b, second, refl))

pub three : (f a c : Function) → IsTurn f a → AreTurns 2 a c → AreTurns 3 f c
unfolding AreTurns
three f a c first rest = (a, first, rest)

pub two_walks : (bodies : List ℕ → Option Function) (f a b : Function) → IsWalk bodies f a → IsWalk bodies a b → AreWalks 2 bodies f b
unfolding AreWalks
two_walks bodies f a b first second = (a, first, (b, second, refl))

pub three_walks : (bodies : List ℕ → Option Function) (f a c : Function) → IsWalk bodies f a → AreWalks 2 bodies a c → AreWalks 3 bodies f c
unfolding AreWalks
three_walks bodies f a c first rest = (a, first, rest)
