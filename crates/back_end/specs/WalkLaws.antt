-- What is true of all that a walk makes.
use Rattle.std.specs.Prelude.{◌≡◌, ℕ, ◌≤◌, ◌+◌, List, ◌∷◌, ◌++◌, length, Option, Some}
use Rattle.ir_tree.specs.Rules.{Sound}
use Rattle.ir_tree.specs.declared.block.Block.{Block}
use Rattle.ir_tree.specs.declared.function.Function.{Function}
use Rattle.ir_meaning.specs.Near.{BetterThan}
use Rattle.ir_meaning.specs.Program.{Program}
use Rattle.ir_meaning.specs.Formed.{IsFormed}
use Rattle.inline_site.specs.Copies.{behind_call, first_free}
use Rattle.inline_site.specs.Inlined.{IsInlined}
use Rattle.inline_site.specs.Sites.{counted_in}
use Rattle.back_end.specs.Inlinable.{AreSound, HasBodies}
use Rattle.back_end.specs.Walk.{IsWalk, next_place}

-- better in every program whose own these bodies are, each step answered within one number of steps
pub record IsBetterWith (bodies : List ℕ → Option Function) (g f : Function) : Type 0 where
  pub bound : ℕ
  pub some : 1 ≤ bound
  pub better : (p : Program) → IsFormed p → HasBodies p bodies → BetterThan p bound g f

-- what a walk makes of a sound function with sound bodies is sound, and better in every program whose own the bodies are
abbrev pub WalkIsBetter : Type 0
WalkIsBetter = (bodies : List ℕ → Option Function) (f g : Function) → Sound f → AreSound bodies → IsWalk bodies f g → Sound g × IsBetterWith bodies g f

-- no two functions are made by a walk
abbrev pub WalkIsOne : Type 0
WalkIsOne = (bodies : List ℕ → Option Function) (f g h : Function) → IsWalk bodies f g → IsWalk bodies f h → g ≡ h

-- the block of this number stands among these blocks, and the place is the one behind its phis
pub record IsBehind (bs : List Block) (number next : ℕ) : Type 0 where
  pub front : List Block
  pub block : Block
  pub back : List Block
  pub is : bs ≡ front ++ block ∷ back
  pub numbered : block.number ≡ number
  pub place : next ≡ counted_in front + (length block.phis + 1)

-- a walk goes on behind the phis of the block behind the call
abbrev pub NextIsBehind : Type 0
NextIsBehind = (f callee h : Function) (place : ℕ) → IsInlined f place callee (Some h) → IsBehind h.blocks (behind_call (first_free f) callee) (next_place f place h)
