-- A function without the blocks that aren't reached from its entry.
use Rattle.std.specs.Prelude.{◌≡◌, ◌↔◌, ℕ, Bool, IsTrue, if◌then◌else◌, List, [], ◌∷◌, map, slice_get, Some}
use Rattle.ir_tree.specs.Flow.{Reachable}
use Rattle.ir_tree.specs.declared.block.Block.{Block}
use Rattle.ir_tree.specs.declared.function.Function.{Function}
use Rattle.ir_tree.specs.declared.instr.Incoming.{Incoming}
use Rattle.ir_tree.specs.declared.instr.Phi.{Phi}

-- a path from the entry leads to a block of this number
abbrev pub IsReached : Function → ℕ → Type 0
IsReached f n = (b : ℕ) × (block : Block) × (slice_get f.blocks b ≡ Some block) × (block.number ≡ n) × Reachable f b

-- the numbers of the blocks that are reached
abbrev pub AreReached : Function → (ℕ → Bool) → Type 0
AreReached f reached = (n : ℕ) → IsTrue (reached n) ↔ IsReached f n

-- the entries of blocks of the set
abbrev pub entries_in : (ℕ → Bool) → List Incoming → List Incoming
entries_in reached [] = []
entries_in reached (e ∷ es) = if reached e.from then e ∷ entries_in reached es else entries_in reached es

abbrev pub phi_in : (ℕ → Bool) → Phi → Phi
phi_in reached p = record p { incoming = entries_in reached p.incoming }

abbrev pub block_in : (ℕ → Bool) → Block → Block
block_in reached b = record b { phis = map (phi_in reached) b.phis }

abbrev pub blocks_in : (ℕ → Bool) → List Block → List Block
blocks_in reached [] = []
blocks_in reached (b ∷ bs) = if reached b.number then block_in reached b ∷ blocks_in reached bs else blocks_in reached bs

-- the function with the blocks of the set and their entries alone
abbrev pub trimmed : (ℕ → Bool) → Function → Function
trimmed reached f = record f { blocks = blocks_in reached f.blocks }

-- g is f with the blocks that are reached from its entry, in which no phi entry names another
abbrev pub IsTrimOf : Function → Function → Type 0
IsTrimOf f g = (reached : ℕ → Bool) × AreReached f reached × (g ≡ trimmed reached f)
