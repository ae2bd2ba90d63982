-- Blocks that are joined to their only predecessors.
use Rattle.std.specs.Prelude.{◌≡◌, ◌≢◌, ℕ, zero, suc, ◌≤◌, nat_eq, if◌then◌else◌, List, [], ◌∷◌, ◌++◌, length, map, slice_get, Some}
use Rattle.ir_tree.specs.Flow.{leading}
use Rattle.ir_tree.specs.declared.block.Block.{Block}
use Rattle.ir_tree.specs.declared.block.Terminator.TheVariants.{Jump}
use Rattle.ir_tree.specs.declared.function.Function.{Function}
use Rattle.ir_tree.specs.declared.instr.Incoming.{Incoming}
use Rattle.ir_tree.specs.declared.instr.Phi.{Phi}

-- one of these blocks
abbrev pub IsOneOf : List Block → Block → Type 0
IsOneOf bs b = (i : ℕ) × (slice_get bs i ≡ Some b)

abbrev pub behind_entry : List Block → List Block
behind_entry [] = []
behind_entry (b ∷ bs) = bs

-- the block `a` jumps to the block `y`, and no other edge leads there; `y` is another block, not the entry, without phis
pub record CanJoin (f : Function) (a y : Block) : Type 0 where
  pub first : IsOneOf f.blocks a
  pub second : IsOneOf (behind_entry f.blocks) y
  pub jumps : a.end ≡ Jump y.number
  pub other : y.number ≢ a.number
  pub only : length (leading y.number 0 f.blocks) ≡ 1
  pub no_phis : y.phis ≡ []

-- ---- one join

abbrev pub renamed : ℕ → ℕ → ℕ → ℕ
renamed old new n = if nat_eq old n then new else n

abbrev pub entry_named : (ℕ → ℕ) → Incoming → Incoming
entry_named name e = record e { from = name e.from }

abbrev pub phi_named : (ℕ → ℕ) → Phi → Phi
phi_named name p = record p { incoming = map (entry_named name) p.incoming }

-- the block `a` takes the content of the block `y`; phi entries that named `y` name `a`
abbrev pub joined_block : ℕ → Block → Block → Block
joined_block a y b = record {
  number = b.number;
  phis = map (phi_named (renamed y.number a)) b.phis;
  lines = if nat_eq a b.number then b.lines ++ y.lines else b.lines;
  end = if nat_eq a b.number then y.end else b.end;
}

-- and the block `y` goes
abbrev pub joined_blocks : ℕ → Block → List Block → List Block
joined_blocks a y [] = []
joined_blocks a y (b ∷ bs) = if nat_eq y.number b.number then joined_blocks a y bs else joined_block a y b ∷ joined_blocks a y bs

abbrev pub joined : ℕ → Block → Function → Function
joined a y f = record f { blocks = joined_blocks a y f.blocks }

-- ---- all joins

-- no block before the place i can take another one
abbrev pub IsFirst : Function → ℕ → Type 0
IsFirst f i = (a y : Block) (can : CanJoin f a y) → i ≤ can.first.0

-- so many joins lead from f to g, each of the first block that can take another one
abbrev pub Joins : ℕ → Function → Function → Type 0
Joins zero f g = g ≡ f
Joins (suc k) f g = (h : Function) × (a : Block) × (y : Block) × Joins k f h × (can : CanJoin h a y) × IsFirst h can.first.0 × (g ≡ joined a.number y h)

-- joins lead from f to g, in which no blocks are left to be joined
abbrev pub IsMergeOf : Function → Function → Type 0
IsMergeOf f g = (k : ℕ) × Joins k f g × ((a y : Block) → CanJoin g a y → ⊥)
