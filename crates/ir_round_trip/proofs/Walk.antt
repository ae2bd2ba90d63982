-- What holds of each item of a function, block by block.
use Rattle.std.proofs.Common.{ℕ, suc, List, [], ◌∷◌, ◌++◌, map}
use Rattle.std.specs.List.{AllByRecursion as Each}
use Rattle.ir_tree.specs.Items.{Item, phi_item, line_item, end_item, items_from, block_items, lines_from}
use Rattle.ir_tree.specs.declared.block.Block.{Block}
use Rattle.ir_tree.specs.declared.block.Terminator.{Terminator}
use Rattle.ir_tree.specs.declared.instr.Line.{Line}
use Rattle.ir_tree.specs.declared.instr.Phi.{Phi}
use Rattle.ir_round_trip.proofs.Each.{front, back}
use Rattle.ir_round_trip.specs.Bodies.{phi_as_line, stated}

-- of each line, phis among them, and of the terminator
pub record BlockHas (L : Line → Type 0) (E : Terminator → Type 0) (b : Block) : Type 0 where
  pub lines : Each L (stated b)
  pub end : E b.end

module _ (P : Item → Type 0) (L : Line → Type 0) (E : Terminator → Type 0) (phi : (b : ℕ) (p : Phi) → P (phi_item b p) → L (phi_as_line p)) (line : (b k : ℕ) (l : Line) → P (line_item b k l) → L l)
    (end : (b : ℕ) (t : Terminator) → P (end_item b t) → E t) where
  lines_have : (b k : ℕ) (ls : List Line) (rest : List Item) → Each P (lines_from b k ls ++ rest) → Each L ls
  lines_have b k [] rest h = tt
  lines_have b k (l ∷ ls) rest h = (line b k l h.0, lines_have b (suc k) ls rest h.1)

  stated_have : (b : ℕ) (ps : List Phi) (ls : List Line) (rest : List Item) → Each P (map (phi_item b) ps ++ (lines_from b 0 ls ++ rest)) → Each L (map phi_as_line ps ++ ls)
  stated_have b [] ls rest h = lines_have b 0 ls rest h
  stated_have b (p ∷ ps) ls rest h = (phi b p h.0, stated_have b ps ls rest h.1)

  block_has : (p : ℕ) (b : Block) → Each P (block_items p b) → BlockHas L E b
  block_has p b h =
      let behind = back P (map (phi_item p) b.phis) (lines_from p 0 b.lines ++ end_item p b.end ∷ []) h in
      record { lines = stated_have p b.phis b.lines (end_item p b.end ∷ []) h; end = end p b.end (back P (lines_from p 0 b.lines) (end_item p b.end ∷ []) behind).0 }

  pub blocks_have : (p : ℕ) (bs : List Block) → Each P (items_from p bs) → Each (BlockHas L E) bs
  blocks_have p [] h = tt
  blocks_have p (b ∷ bs) h = (block_has p b (front P (block_items p b) (items_from (suc p) bs) h), blocks_have (suc p) bs (back P (block_items p b) (items_from (suc p) bs) h))
