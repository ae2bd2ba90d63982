-- Facts at the points of a function, and substitution by them in rounds (Kildall 1973, "A unified approach to global program optimization").
use Rattle.std.specs.Prelude.{◌≡◌, ℕ, zero, suc, ◌<◌, length, [], false, slice_get, Option, Some, None}
use Rattle.ir_tree.specs.declared.block.Block.{Block}
use Rattle.ir_tree.specs.declared.function.Function.{Function}
use Rattle.ir_tree.specs.declared.operand.Operand.{Operand}
use Rattle.ir_tree.specs.Flow.{Reachable}
use Rattle.ir_tree.specs.Rules.{Sound}
use Rattle.ir_meaning.specs.Act.{find_block}
use Rattle.ir_meaning.specs.Near.{BetterThan}
use Rattle.ir_meaning.specs.Program.{Program}
use Rattle.ir_meaning.specs.Facts.{EdgeFacts, Facts, Has, IsTarget, behind_lines, function_replaced, is_phi_operand}
use Rattle.ir_meaning.specs.Formed.{IsFormed}
use Rattle.ir_edit.specs.Substituted.{replacement, substituted}
use Rattle.ir_facts.specs.Candidates.{candidates}
use Rattle.ir_facts.specs.Settled.{IsSettled, settled}

-- ---- facts at points

-- the facts at the end of a block: those at its start, behind its lines
abbrev pub end_of : (ℕ → Option Operand) → (ℕ → Facts) → Option Block → Facts
end_of candidate starts None = []
end_of candidate starts (Some b) = behind_lines candidate b.lines (starts b.number)

abbrev pub ends_of : (ℕ → Option Operand) → (ℕ → Facts) → Function → ℕ → Facts
ends_of candidate starts f n = end_of candidate starts (find_block f.blocks n)

-- Facts at the start of each block, behind its phis, that follow from those at the ends of its predecessors: a local that no phi
-- gives a value has the fact at each of these ends, and one that a phi gives a value is the candidate on the edge, or itself with
-- its fact; no phi of the block gives the candidate's local a value, whether the block has predecessors or not.
pub record IsSolution (candidate : ℕ → Option Operand) (f : Function) (starts : ℕ → Facts) : Type 0 where
  pub known : (n x : ℕ) (v : Operand) → Has (starts n) x v → candidate x ≡ Some v
  pub entry : (b : Block) → slice_get f.blocks 0 ≡ Some b → starts b.number ≡ []
  pub outside : (n x : ℕ) (v : Operand) (b : Block) → find_block f.blocks n ≡ Some b → Has (starts n) x v → is_phi_operand v b.phis ≡ false
  pub edges : (m n : ℕ) (a b : Block) → find_block f.blocks m ≡ Some a → IsTarget a.end n → find_block f.blocks n ≡ Some b
      → EdgeFacts (ends_of candidate starts f m) m b.phis (starts n)

-- each use replaced by what has the fact there: in a phi's entry at the end of the predecessor
abbrev pub substituted_by : (ℕ → Option Operand) → (ℕ → Facts) → Function → Function
substituted_by candidate starts f = function_replaced candidate starts (ends_of candidate starts f) f

abbrev pub AreAmong : (ℕ → Facts) → (ℕ → Facts) → Type 0
AreAmong starts others = (n x : ℕ) (v : Operand) → Has (starts n) x v → Has (others n) x v

-- g is f with each use replaced whose fact the greatest solution has: no larger solution than this one makes another function
pub record IsStep (candidate : ℕ → Option Operand) (f g : Function) : Type 0 where
  pub starts : ℕ → Facts
  pub solution : IsSolution candidate f starts
  pub most : (others : ℕ → Facts) → IsSolution candidate f others → AreAmong starts others → g ≡ substituted_by candidate others f

-- ---- rounds

-- what may stand for a local
abbrev pub candidate_of : Function → ℕ → Option Operand
candidate_of f x = replacement (candidates f) x

-- In one round free choices are settled in their places, and at once each use is replaced whose fact holds there: by one constant
-- each use of a local whose choice is settled.
abbrev pub IsRound : Function → Function → Type 0
IsRound f g = IsStep (candidate_of (settled f)) (settled f) g

-- behind a round that changes nothing no other changes anything
unfoldable pub AreRounds : ℕ → Function → Function → Type 0
AreRounds zero f g = g ≡ f
AreRounds (suc n) f g = (h : Function) × IsRound f h × AreRounds n h g

-- what facts make of a function: sixteen rounds
abbrev pub IsApplied : Function → Function → Type 0
IsApplied f g = AreRounds 16 f g

-- there is one such function
abbrev pub AppliedIsOne : Type 0
AppliedIsOne = (f g h : Function) → IsApplied f g → IsApplied f h → g ≡ h

-- ---- where all blocks are reached

abbrev pub AllReached : Function → Type 0
AllReached f = (b : ℕ) → b < length f.blocks → Reachable f b

-- each use replaced, wherever it stands
abbrev pub step_of : Function → Function
step_of f = substituted (candidates f) f

abbrev pub round_of : Function → Function
round_of f = step_of (settled f)

unfoldable pub rounds_of : ℕ → Function → Function
rounds_of zero f = f
rounds_of (suc n) f = rounds_of n (round_of f)

-- rounds are these, and so are the uses at which the facts hold: in a sound function all whose blocks are reached a candidate has
-- its fact wherever its local is used
abbrev pub RoundsAreAll : Type 0
RoundsAreAll = (n : ℕ) (f : Function) → Sound f → AllReached f → AreRounds n f (rounds_of n f)

-- what rounds make of a sound function is sound, and better in every program
abbrev pub RoundsAreBetter : Type 0
RoundsAreBetter = (n : ℕ) (f g : Function) → Sound f → AreRounds n f g → Sound g × ((p : Program) → IsFormed p → BetterThan p 1 g f)

-- settling free choices keeps a function sound, leaves none open, and is better
abbrev pub SettledIsBetter : Type 0
SettledIsBetter = (f : Function) → Sound f → Sound (settled f) × IsSettled (settled f) × ((p : Program) → IsFormed p → BetterThan p 1 (settled f) f)

-- what a step makes of a sound function is better, whether its blocks are reached or not, where no candidate rests on a free choice
abbrev pub StepsAreBetter : Type 0
StepsAreBetter = (f g : Function) → Sound f → IsSettled f → IsStep (candidate_of f) f g → (p : Program) → IsFormed p → BetterThan p 1 g f

-- and a step of any sound function keeps it sound
abbrev pub StepsAreSound : Type 0
StepsAreSound = (f g : Function) → Sound f → IsStep (candidate_of f) f g → Sound g
