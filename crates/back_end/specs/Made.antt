-- What the back end makes of one function: the function compiled.
use Rattle.std.specs.Prelude.{◌≡◌, ℕ, zero, suc, ◌≤◌, Bool, true, false, List, Option}
use Rattle.ir_tree.specs.declared.function.Function.{Function}
use Rattle.ir_edit.specs.Numbered.{in_text_order}
use Rattle.ir_meaning.specs.Near.{BetterThan}
use Rattle.ir_meaning.specs.Program.{Program}
use Rattle.ir_meaning.specs.Formed.{IsFormed}
use Rattle.block_trim.specs.Merged.{IsMergeOf}
use Rattle.block_trim.specs.Trimmed.{IsTrimOf}
use Rattle.branch_simplify.specs.Simplified.{simplified}
use Rattle.dead_code.specs.Least.{IsNeededOf}
use Rattle.ir_facts.specs.Steps.{IsApplied}
use Rattle.slot_promote.specs.Promoted.{promoted_function}
use Rattle.back_end.specs.Walk.{AreWalks}

-- one turn: copies and constants are propagated, decided branches become jumps, what isn't reached goes, blocks are joined, and then
-- what nobody needs goes
pub record IsTurn (f g : Function) : Type 0 where
  pub propagated : Function
  pub facts : IsApplied f propagated
  pub trimmed : Function
  pub trim : IsTrimOf (simplified propagated) trimmed
  pub merged : Function
  pub merge : IsMergeOf trimmed merged
  pub needed : IsNeededOf merged g

unfoldable pub AreTurns : ℕ → Function → Function → Type 0
AreTurns zero f g = g ≡ f
AreTurns (suc n) f g = (h : Function) × IsTurn f h × AreTurns n h g

-- three walks inline bodies, stack slots become values, then three turns, and then numbers in the order of the text
pub record IsOptimised (bodies : List ℕ → Option Function) (f g : Function) : Type 0 where
  pub walked : Function
  pub walks : AreWalks 3 bodies f walked
  pub turned : Function
  pub turns : AreTurns 3 (promoted_function walked) turned
  pub order : g ≡ in_text_order turned

-- a function that is to be left alone is as it was (LangRef, "Function Attributes": `optnone`)
abbrev pub MadeWhere : Bool → (List ℕ → Option Function) → Function → Function → Type 0
MadeWhere true bodies f g = g ≡ f
MadeWhere false bodies f g = IsOptimised bodies f g

-- where these are the bodies that may be inlined, by the names of their functions
abbrev pub IsMade : (List ℕ → Option Function) → Function → Function → Type 0
IsMade bodies f g = MadeWhere f.optnone bodies f g

-- better in every program, each step answered within one number of steps
pub record IsBetterEverywhere (g f : Function) : Type 0 where
  pub bound : ℕ
  pub some : 1 ≤ bound
  pub better : (p : Program) → IsFormed p → BetterThan p bound g f
