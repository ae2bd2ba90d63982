-- Functions in which each block is of a set of numbers.
use Rattle.std.specs.Prelude.{ℕ, Bool, true, ◌&&◌, List, [], ◌∷◌}
use Rattle.ir_tree.specs.declared.block.Block.{Block}
use Rattle.ir_tree.specs.declared.instr.Incoming.{Incoming}
use Rattle.ir_tree.specs.declared.instr.Phi.{Phi}

abbrev pub entries_stay : (ℕ → Bool) → List Incoming → Bool
entries_stay reached [] = true
entries_stay reached (e ∷ es) = reached e.from && entries_stay reached es

abbrev pub phis_stay : (ℕ → Bool) → List Phi → Bool
phis_stay reached [] = true
phis_stay reached (p ∷ ps) = entries_stay reached p.incoming && phis_stay reached ps

abbrev pub block_stays : (ℕ → Bool) → Block → Bool
block_stays reached b = reached b.number && phis_stay reached b.phis

-- each of these blocks is of the set, and so is each that a phi entry names
abbrev pub blocks_stay : (ℕ → Bool) → List Block → Bool
blocks_stay reached [] = true
blocks_stay reached (b ∷ bs) = block_stays reached b && blocks_stay reached bs
