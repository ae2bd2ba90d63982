-- Branches, trimming and merging of blocks: a function with the same instructions in other blocks.
use Rattle.std.specs.Prelude.{◌≡◌, ℕ, zero, suc, List, [], ◌∷◌, ◌++◌, Some, ◌⊎◌}
use Rattle.ir_tree.specs.declared.block.Block.{Block}
use Rattle.ir_tree.specs.declared.block.Terminator.{Terminator}
use Rattle.ir_tree.specs.declared.block.Terminator.TheVariants.{Jump}
use Rattle.ir_tree.specs.declared.function.Function.{Function}
use Rattle.ir_tree.specs.declared.instr.Line.{Line}
use Rattle.ir_meaning.specs.Act.{Exit, Leads', Stuck, exit_of, find_block, phis_bound}
use Rattle.ir_meaning.specs.Frame.{Locals, Signature, value_of}

-- a place in a function: the block, what is left of it, and its end
pub record Spot : Type 0 where
  pub block : ℕ
  pub rest : List Line
  pub end : Terminator

abbrev pub spot_of : Block → Spot
spot_of b = record { block = b.number; rest = b.lines; end = b.end }

-- after so many jumps of the second function alone at most, the first place does what the second does
abbrev pub Spots : Type 1
Spots = ℕ → Spot → Spot → Type 0

-- the program reaches undefined behaviour there
abbrev pub IsStuck : Exit → Type 0
IsStuck (Stuck cause) = Unit {0}
IsStuck _ = ⊥

-- both leave their blocks alike
pub record LeavesAlike (at : Spots) (most : ℕ) (first second : Function) (a b : Spot) (sig : Signature) (locals : Locals) : Type 0 where
  pub exit : exit_of (value_of sig locals) a.end ≡ exit_of (value_of sig locals) b.end
  pub next : (n : ℕ) (y : Block) → exit_of (value_of sig locals) b.end ≡ Leads' n → find_block second.blocks n ≡ Some y →
      (x : Block) × (find_block first.blocks n ≡ Some x) ×
      (phis_bound sig locals a.block x.phis locals ≡ phis_bound sig locals b.block y.phis locals) ×
      at most (spot_of x) (spot_of y)

-- the second goes on in a block of its own, into which the first goes without a jump
abbrev pub GoesQuietly : Spots → ℕ → Function → Spot → Spot → Type 0
GoesQuietly at zero second a b = ⊥
GoesQuietly at (suc k) second a b = (n : ℕ) × (y : Block) × (b.end ≡ Jump n) × (find_block second.blocks n ≡ Some y) ×
    (y.phis ≡ []) × at k a (spot_of y)

pub record IsShape (at : Spots) (most : ℕ) (first second : Function) : Type 0 where
  pub line : (k : ℕ) (a b : Spot) (l : Line) (rest : List Line) → at k a b → b.rest ≡ l ∷ rest → (rest' : List Line) ×
      (a.rest ≡ l ∷ rest') × at k (record a { rest = rest' }) (record b { rest = rest })
  pub last : (k : ℕ) (a b : Spot) → at k a b → b.rest ≡ [] → GoesQuietly at k second a b
      ⊎ ((a.rest ≡ []) × ((sig : Signature) (locals : Locals) → IsStuck (exit_of (value_of sig locals) b.end) ⊎
      LeavesAlike at most first second a b sig locals))
  -- both begin alike
  pub params : first.params ≡ second.params
  pub entry : (x : Block) × (y : Block) × (xs : List Block) × (ys : List Block) × (first.blocks ≡ x ∷ xs) ×
      (second.blocks ≡ y ∷ ys) × at most (spot_of x) (spot_of y)

-- where the second function's blocks are in the first: in which block, what follows there, the end there, their own end, and how many jumps are gone till then
pub record Layout : Type 0 where
  pub home : ℕ → ℕ
  pub tail : ℕ → List Line
  pub final : ℕ → Terminator
  pub own : ℕ → Terminator
  pub fuel : ℕ → ℕ

abbrev pub laid : Layout → Spots
laid t k a b = (a.block ≡ t.home b.block) × (a.rest ≡ b.rest ++ t.tail b.block) × (a.end ≡ t.final b.block) ×
    (b.end ≡ t.own b.block) × (k ≡ t.fuel b.block)
