-- What holds of each phi, line and terminator of a function, of what holds of its items and of its uses.
use Rattle.std.proofs.Common.{◌≡◌, ℕ, zero, suc, ◌+◌, nat_eq, Bool, true, false, not, ◌&&◌, ◌||◌, List, [], ◌∷◌, ◌++◌, map, Some, None, refl, sym, ap, subst, arith}
use Rattle.std.specs.Prelude.{All, slice_get}
use Rattle.std.proofs.lemmas.List.Elements.{All-head, All-tail}
use Rattle.ir_tree.specs.Items.{Item, phi_item, line_item, end_item, block_items, items, items_from, lines_from}
use Rattle.ir_tree.specs.declared.block.Block.{Block}
use Rattle.ir_tree.specs.declared.function.Function.{Function}
use Rattle.ir_tree.specs.declared.instr.Line.{Line}
use Rattle.ir_tree.specs.declared.operand.Operand.TheVariants.{Local}
use Rattle.ir_tree.specs.declared.operand.Reg.{Reg}
use Rattle.ir_tree.specs.declared.operand.Reg.TheVariants.{Int, Ptr}
use Rattle.ir_meaning.specs.Execute.{reg_eq}
use Rattle.ir_meaning.proofs.Everywhere.{all_back, all_front}
use Rattle.promotable_slots.specs.Slots.{is_access, is_accessed_as}
use Rattle.promotable_slots.specs.Uses.{block_uses, end_uses, instr_uses, line_uses, operand_uses, phi_uses, uses}
use Rattle.promotable_slots.specs.declared.uses.Use.{Use}
use Rattle.slot_promote.proofs.Tests.{and_left, and_right}
use Rattle.std.proofs.lemmas.Bool.{and_from as and_both, eq-eqb, eqb-true}

-- ---- items

module _ (P : Item → Type 0) where
  block_at : (s b : ℕ) (bs : List Block) (block : Block) → slice_get bs b ≡ Some block → All P (items_from s bs) → All P (block_items (s + b) block)
  block_at s b [] block found h = absurd cc
  block_at s zero (x ∷ bs) block found h =
      let same : x ≡ block = cc found in
      subst (λ (n : ℕ). All P (block_items n block)) (omega arith) (subst (λ (y : Block). All P (block_items s y)) same (all_front P (block_items s x) (items_from (suc s) bs) h))
  block_at s (suc b) (x ∷ bs) block found h =
      subst (λ (n : ℕ). All P (block_items n block)) (omega arith) (block_at (suc s) b bs block found (all_back P (block_items s x) (items_from (suc s) bs) h))

  pub in_block : (f : Function) (b : ℕ) (block : Block) → slice_get f.blocks b ≡ Some block → All P (items f) → All P (block_items b block)
  in_block f b block found h = subst (λ (n : ℕ). All P (block_items n block)) (omega arith) (block_at 0 b f.blocks block found h)

  pub in_phis : (b : ℕ) (block : Block) → All P (block_items b block) → All P (map (phi_item b) block.phis)
  in_phis b block h = all_front P (map (phi_item b) block.phis) (lines_from b 0 block.lines ++ end_item b block.end ∷ []) h

  pub in_lines : (b : ℕ) (block : Block) → All P (block_items b block) → All P (lines_from b 0 block.lines)
  in_lines b block h = all_front P (lines_from b 0 block.lines) (end_item b block.end ∷ []) (all_back P (map (phi_item b) block.phis) (lines_from b 0 block.lines ++ end_item b block.end ∷ []) h)

  pub in_end : (b : ℕ) (block : Block) → All P (block_items b block) → P (end_item b block.end)
  in_end b block h =
      All-head P (end_item b block.end) []
      (all_back P (lines_from b 0 block.lines) (end_item b block.end ∷ []) (all_back P (map (phi_item b) block.phis) (lines_from b 0 block.lines ++ end_item b block.end ∷ []) h))

  line_in : (b s k : ℕ) (ls : List Line) (l : Line) → slice_get ls k ≡ Some l → All P (lines_from b s ls) → P (line_item b (s + k) l)
  line_in b s k [] l found h = absurd cc
  line_in b s zero (x ∷ ls) l found h =
      let same : x ≡ l = cc found in
      subst (λ (n : ℕ). P (line_item b n l)) (omega arith) (subst (λ (y : Line). P (line_item b s y)) same (All-head P (line_item b s x) (lines_from b (suc s) ls) h))
  line_in b s (suc k) (x ∷ ls) l found h =
      subst (λ (n : ℕ). P (line_item b n l)) (omega arith) (line_in b (suc s) k ls l found (All-tail P (line_item b s x) (lines_from b (suc s) ls) h))

  pub at_line : (b k : ℕ) (block : Block) (l : Line) → slice_get block.lines k ≡ Some l → All P (block_items b block) → P (line_item b k l)
  at_line b k block l found h = subst (λ (n : ℕ). P (line_item b n l)) (omega arith) (line_in b 0 k block.lines l found (in_lines b block h))

-- ---- uses

pub used_front : (reg : Reg) (x : ℕ) (us vs : List Use) → is_accessed_as reg x (us ++ vs) ≡ true → is_accessed_as reg x us ≡ true
used_front reg x [] vs h = refl
used_front reg x (u ∷ us) vs h =
    and_both (not (nat_eq u.local x) || is_access reg u.access) (is_accessed_as reg x us) (and_left (not (nat_eq u.local x) || is_access reg u.access) (is_accessed_as reg x (us ++ vs)) h)
    (used_front reg x us vs (and_right (not (nat_eq u.local x) || is_access reg u.access) (is_accessed_as reg x (us ++ vs)) h))

pub used_back : (reg : Reg) (x : ℕ) (us vs : List Use) → is_accessed_as reg x (us ++ vs) ≡ true → is_accessed_as reg x vs ≡ true
used_back reg x [] vs h = h
used_back reg x (u ∷ us) vs h = used_back reg x us vs (and_right (not (nat_eq u.local x) || is_access reg u.access) (is_accessed_as reg x (us ++ vs)) h)

pub used_in_block : (reg : Reg) (x b : ℕ) (bs : List Block) (block : Block) → slice_get bs b ≡ Some block → is_accessed_as reg x (uses bs) ≡ true → is_accessed_as reg x (block_uses block) ≡ true
used_in_block reg x b [] block found h = absurd cc
used_in_block reg x zero (y ∷ bs) block found h =
    let same : y ≡ block = cc found in
    subst (λ (z : Block). is_accessed_as reg x (block_uses z) ≡ true) same (used_front reg x (block_uses y) (uses bs) h)
used_in_block reg x (suc b) (y ∷ bs) block found h = used_in_block reg x b bs block found (used_back reg x (block_uses y) (uses bs) h)

pub used_in_phis : (reg : Reg) (x : ℕ) (block : Block) → is_accessed_as reg x (block_uses block) ≡ true → is_accessed_as reg x (phi_uses block.phis) ≡ true
unfolding block_uses
used_in_phis reg x block h = used_front reg x (phi_uses block.phis) (line_uses block.lines ++ end_uses block.end) h

pub used_in_lines : (reg : Reg) (x : ℕ) (block : Block) → is_accessed_as reg x (block_uses block) ≡ true → is_accessed_as reg x (line_uses block.lines) ≡ true
unfolding block_uses
used_in_lines reg x block h = used_front reg x (line_uses block.lines) (end_uses block.end) (used_back reg x (phi_uses block.phis) (line_uses block.lines ++ end_uses block.end) h)

pub used_in_end : (reg : Reg) (x : ℕ) (block : Block) → is_accessed_as reg x (block_uses block) ≡ true → is_accessed_as reg x (end_uses block.end) ≡ true
unfolding block_uses
used_in_end reg x block h = used_back reg x (line_uses block.lines) (end_uses block.end) (used_back reg x (phi_uses block.phis) (line_uses block.lines ++ end_uses block.end) h)

pub used_at_line : (reg : Reg) (x k : ℕ) (ls : List Line) (l : Line) → slice_get ls k ≡ Some l → is_accessed_as reg x (line_uses ls) ≡ true → is_accessed_as reg x (instr_uses l.instr) ≡ true
used_at_line reg x k [] l found h = absurd cc
used_at_line reg x zero (y ∷ ls) l found h =
    let same : y ≡ l = cc found in
    subst (λ (z : Line). is_accessed_as reg x (instr_uses z.instr) ≡ true) same (used_front reg x (instr_uses y.instr) (line_uses ls) h)
used_at_line reg x (suc k) (y ∷ ls) l found h = used_at_line reg x k ls l found (used_back reg x (instr_uses y.instr) (line_uses ls) h)

-- a local that is used in another way than as an address isn't the slot
pub not_used : (reg : Reg) (x y : ℕ) → is_accessed_as reg x (operand_uses None (Local y)) ≡ true → x ≡ y → ⊥
not_used reg x y h e = by (nat_eq y x) (eq-eqb y x (sym e)) h
  where
    by : (t : Bool) → t ≡ true → ((not t || false) && true) ≡ true → ⊥
    by true is g = cc
    by false is g = cc

same_reg : (a b : Reg) → reg_eq a b ≡ true → a ≡ b
same_reg (Int v) (Int w) h = ap Int (eqb-true v w h)
same_reg (Int v) Ptr h = absurd cc
same_reg Ptr (Int w) h = absurd cc
same_reg Ptr Ptr h = refl

-- an access of the slot is one of its type
pub accessed : (reg other : Reg) (x : ℕ) → is_accessed_as reg x (operand_uses (Some other) (Local x)) ≡ true → other ≡ reg
accessed reg other x h = same_reg other reg (by (nat_eq x x) (reg_eq other reg) (eq-eqb x x refl) h)
  where
    by : (t u : Bool) → t ≡ true → ((not t || u) && true) ≡ true → u ≡ true
    by true true is g = refl
    by true false is g = absurd cc
    by false u is g = absurd cc
