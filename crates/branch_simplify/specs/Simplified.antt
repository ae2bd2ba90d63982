-- Constant branches become jumps, and each edge that is lost takes a phi entry with it.
use Rattle.std.specs.Prelude.{ℕ, nat_le, if◌then◌else◌, List, [], ◌∷◌, ◌++◌, map}
use Rattle.ir_tree.specs.Flow.{repeated}
use Rattle.ir_tree.specs.declared.block.Block.{Block}
use Rattle.ir_tree.specs.declared.function.Function.{Function}
use Rattle.ir_tree.specs.declared.instr.Incoming.{Incoming}
use Rattle.ir_tree.specs.declared.instr.Phi.{Phi}
use Rattle.ir_meaning.specs.Counted.{sources, times}
use Rattle.branch_simplify.specs.Decided.{lost, straight}

-- the numbers of the blocks that lose an edge to the block m, once for each such edge
abbrev pub lost_into : ℕ → List Block → List ℕ
lost_into m [] = []
lost_into m (b ∷ bs) = repeated b.number m (lost b.end) ++ lost_into m bs

-- an entry stays where as many entries of its block stand behind it as edges from that block are lost, so that each lost
-- edge takes the last entry
abbrev pub entries_left : (ℕ → ℕ) → List Incoming → List Incoming
entries_left lost [] = []
entries_left lost (e ∷ es) = if nat_le (lost e.from) (times e.from (sources es)) then e ∷ entries_left lost es else entries_left lost es

abbrev pub phi_left : (ℕ → ℕ) → Phi → Phi
phi_left lost p = record p { incoming = entries_left lost p.incoming }

-- `lost m` has the blocks that lose edges to the block m
abbrev pub simplified_block : (ℕ → List ℕ) → Block → Block
simplified_block lost b = record b { phis = map (phi_left (λ n. times n (lost b.number))) b.phis; end = straight b.end }

-- the function with its decided terminators as jumps
abbrev pub simplified : Function → Function
simplified f = record f { blocks = map (simplified_block (λ m. lost_into m f.blocks)) f.blocks }
