-- Functions of which all is needed.
use Rattle.std.specs.Prelude.{ℕ, Bool, true, ◌&&◌, List, [], ◌∷◌}
use Rattle.ir_tree.specs.declared.block.Block.{Block}
use Rattle.ir_tree.specs.declared.instr.Line.{Line}
use Rattle.ir_tree.specs.declared.instr.Phi.{Phi}
use Rattle.ir_meaning.specs.Needed.{is_needed}

abbrev pub phis_stay : (ℕ → Bool) → List Phi → Bool
phis_stay keeps [] = true
phis_stay keeps (p ∷ ps) = keeps p.local && phis_stay keeps ps

abbrev pub lines_stay : (ℕ → Bool) → List Line → Bool
lines_stay keeps [] = true
lines_stay keeps (line ∷ rest) = is_needed keeps line && lines_stay keeps rest

abbrev pub block_stays : (ℕ → Bool) → Block → Bool
block_stays keeps b = phis_stay keeps b.phis && lines_stay keeps b.lines

-- each phi and each instruction of these blocks is needed
abbrev pub blocks_stay : (ℕ → Bool) → List Block → Bool
blocks_stay keeps [] = true
blocks_stay keeps (b ∷ bs) = block_stays keeps b && blocks_stay keeps bs
