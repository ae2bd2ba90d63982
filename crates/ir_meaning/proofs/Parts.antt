-- What holds of all items of a function holds of its blocks' parts.
use Rattle.std.proofs.Common.{ℕ, suc, List, [], ◌∷◌, ◌++◌}
use Rattle.std.specs.Prelude.{All, map}
use Rattle.std.proofs.lemmas.List.Elements.{All-cons, All-head, All-nil, All-tail}
use Rattle.ir_tree.specs.Items.{Item, block_items, end_item, items_from, line_item, lines_from, phi_item}
use Rattle.ir_tree.specs.declared.block.Block.{Block}
use Rattle.ir_tree.specs.declared.block.Terminator.{Terminator}
use Rattle.ir_tree.specs.declared.instr.Line.{Line}
use Rattle.ir_tree.specs.declared.instr.Phi.{Phi}

pub all_left : {A : Type 0} (P : A → Type 0) (xs ys : List A) → All P (xs ++ ys) → All P xs
all_left P [] ys h = All-nil P
all_left P (x ∷ xs) ys h = All-cons P x xs (All-head P x (xs ++ ys) h) (all_left P xs ys (All-tail P x (xs ++ ys) h))

all_right : {A : Type 0} (P : A → Type 0) (xs ys : List A) → All P (xs ++ ys) → All P ys
all_right P [] ys h = h
all_right P (x ∷ xs) ys h = all_right P xs ys (All-tail P x (xs ++ ys) h)

module _ (P : Item → Type 0) (phis : Phi → Type 0) (lines : Line → Type 0) (end : Terminator → Type 0)
    (of_phi : (b : ℕ) (p : Phi) → P (phi_item b p) → phis p) (of_line : (b k : ℕ) (l : Line) → P (line_item b k l) → lines l) (of_end : (b : ℕ) (t : Terminator) → P (end_item b t) → end t) where
  abbrev pub Parts : Block → Type 0
  Parts b = All phis b.phis × All lines b.lines × end b.end

  phis_hold : (b : ℕ) (ps : List Phi) → All P (map (phi_item b) ps) → All phis ps
  phis_hold b [] h = All-nil phis
  phis_hold b (p ∷ ps) h = All-cons phis p ps (of_phi b p (All-head P (phi_item b p) (map (phi_item b) ps) h)) (phis_hold b ps (All-tail P (phi_item b p) (map (phi_item b) ps) h))

  lines_hold : (b k : ℕ) (ls : List Line) → All P (lines_from b k ls) → All lines ls
  lines_hold b k [] h = All-nil lines
  lines_hold b k (l ∷ ls) h =
      All-cons lines l ls (of_line b k l (All-head P (line_item b k l) (lines_from b (suc k) ls) h)) (lines_hold b (suc k) ls (All-tail P (line_item b k l) (lines_from b (suc k) ls) h))

  block_holds : (b : ℕ) (block : Block) → All P (block_items b block) → Parts block
  block_holds b block h =
      let first = map (phi_item b) block.phis in
      let second = lines_from b 0 block.lines in
      let last = end_item b block.end ∷ [] in
      let more = all_right P first (second ++ last) h in (
        phis_hold b block.phis (all_left P first (second ++ last) h),
        lines_hold b 0 block.lines (all_left P second last more),
        of_end b block.end (All-head P (end_item b block.end) [] (all_right P second last more)),
      )

  pub blocks_hold : (b : ℕ) (blocks : List Block) → All P (items_from b blocks) → All Parts blocks
  blocks_hold b [] h = All-nil Parts
  blocks_hold b (block ∷ blocks) h =
      All-cons Parts block blocks (block_holds b block (all_left P (block_items b block) (items_from (suc b) blocks) h))
      (blocks_hold (suc b) blocks (all_right P (block_items b block) (items_from (suc b) blocks) h))
