-- The blocks of the promoted function, by their places.
use Rattle.std.proofs.Common.{◌≡◌, ℕ, zero, suc, ◌+◌, nat_eq, Bool, true, false, List, [], ◌∷◌, ◌++◌, map, Option, Some, None, option_map, refl, ◌∙◌, ap, arith, if◌then◌else◌}
use Rattle.std.specs.Prelude.{slice_get}
use Rattle.ir_tree.specs.Flow.{edges, leading, leading_to, repeated, successors}
use Rattle.ir_tree.specs.Formed.{numbers}
use Rattle.ir_tree.specs.Rules.{place}
use Rattle.ir_tree.specs.declared.block.Block.{Block}
use Rattle.ir_tree.specs.declared.function.Function.{Function}
use Rattle.ir_tree.specs.declared.instr.Instr.{Instr}
use Rattle.ir_tree.specs.declared.instr.Instr.TheVariants as kind
use Rattle.ir_tree.specs.declared.instr.Line.{Line}
use Rattle.ir_tree.specs.declared.operand.Operand.{Operand}
use Rattle.ir_tree.specs.declared.operand.Operand.TheVariants.{Local, Number, Null, Poison, Symbol as Named}
use Rattle.ir_meaning.specs.Promote.{Current, Fetches, Makes, Other, Use, Writes, chosen_value, put}
use Rattle.slot_promote.specs.Promoted.{block_with, blocks_with, end_at, first_at, promoted_with}
use Rattle.slot_promote.specs.Values.{fetches, goes, instr_with, is_slot, is_there, load_with, local_goes, makes, placed, reg_of, regs, use_of, writes}
use Rattle.slot_promote.specs.declared.slots.SlotRank.{SlotRank}
use Rattle.promotable_slots.specs.declared.slots.Slot.{Slot}

-- ---- lines, by what they do with slots

abbrev Same : (ℕ → Option SlotRank) → Current → Line → List Line → Use → Bool → Instr → Type 0
Same at c l rest action gone i = put (regs at) action c l rest ≡ (if gone then rest else record { local = l.local; instr = i } ∷ rest)

put_alloca : (at : ℕ → Option SlotRank) (c : Current) (l : Line) (rest : List Line) (o : Option ℕ) → Same at c l rest (makes at o) (local_goes at o) l.instr
put_alloca at c l rest None = refl
put_alloca at c l rest (Some x) = by (is_there (at x))
  where
    by : (t : Bool) → Same at c l rest (if t then Makes x else Other) t l.instr
    by true = refl
    by false = refl

put_store : (at : ℕ → Option SlotRank) (c : Current) (l : Line) (rest : List Line) (value address : Operand) → Same at c l rest (writes at value address) (is_slot at address) l.instr
put_store at c l rest value (Local x) = by (is_there (at x))
  where
    by : (t : Bool) → Same at c l rest (if t then Writes x value else Other) t l.instr
    by true = refl
    by false = refl
put_store at c l rest value (Number width bits) = refl
put_store at c l rest value Null = refl
put_store at c l rest value (Poison reg) = refl
put_store at c l rest value (Named symbol offset) = refl

put_load : (at : ℕ → Option SlotRank) (c : Current) (l : Line) (rest : List Line) (address : Operand) → Same at c l rest (fetches at address) false (load_with at c l.instr address)
put_load at c l rest (Local x) = by (is_there (at x))
  where
    by : (t : Bool) → Same at c l rest (if t then Fetches x else Other) false (if t then chosen_value (reg_of (at x)) (c x) else l.instr)
    by true = refl
    by false = refl
put_load at c l rest (Number width bits) = refl
put_load at c l rest Null = refl
put_load at c l rest (Poison reg) = refl
put_load at c l rest (Named symbol offset) = refl

-- as the law puts it
pub put_is : (at : ℕ → Option SlotRank) (c : Current) (local : Option ℕ) (i : Instr) (rest : List Line)
    → Same at c (record { local = local; instr = i }) rest (use_of at local i) (goes at local i) (instr_with at c i)
put_is at c local (kind.Binary op flags width left right) rest = refl
put_is at c local (kind.Icmp predicate reg left right) rest = refl
put_is at c local (kind.Cast op from value to) rest = refl
put_is at c local (kind.Select condition if_true if_false) rest = refl
put_is at c local (kind.Freeze reg value) rest = refl
put_is at c local (kind.Alloca shape align) rest = put_alloca at c (record { local = local; instr = kind.Alloca shape align }) rest local
put_is at c local (kind.Load reg address align) rest = put_load at c (record { local = local; instr = kind.Load reg address align }) rest address
put_is at c local (kind.Store reg value address align) rest = put_store at c (record { local = local; instr = kind.Store reg value address align }) rest value address
put_is at c local (kind.Address inbounds shape base indices) rest = refl
put_is at c local (kind.Call result callee arguments) rest = refl
put_is at c local (kind.Phi reg incoming) rest = refl

-- ---- blocks

module _ (f : Function) (ss : List Slot) (n : ℕ) where
  abbrev pub promoted_at : ℕ → Block → Block
  promoted_at p b = block_with (placed 0 ss) ss (end_at f ss n) (edges f p) (first_at f ss n p) b

  abbrev pub promoted_from : ℕ → List Block → List Block
  promoted_from s bs = blocks_with (placed 0 ss) ss (end_at f ss n) (edges f) (first_at f ss n) s bs

  from_at : (s p : ℕ) (bs : List Block) → slice_get (promoted_from s bs) p ≡ option_map (promoted_at (s + p)) (slice_get bs p)
  from_at s p [] = refl
  from_at s zero (b ∷ bs) = ap (λ (q : ℕ). Some (promoted_at q b)) (omega arith)
  from_at s (suc p) (b ∷ bs) = from_at (suc s) p bs ∙ ap (λ (q : ℕ). option_map (promoted_at q) (slice_get bs p)) (omega arith)

  pub block_at : (p : ℕ) → slice_get (promoted_with f ss n).blocks p ≡ option_map (promoted_at p) (slice_get f.blocks p)
  block_at p = from_at 0 p f.blocks ∙ ap (λ (q : ℕ). option_map (promoted_at q) (slice_get f.blocks p)) (omega arith)

  from_place : (s m : ℕ) (bs : List Block) → place (promoted_from s bs) m ≡ place bs m
  from_place s m [] = refl
  from_place s m (b ∷ bs) = ap (λ (k : ℕ). if nat_eq b.number m then zero else suc k) (from_place (suc s) m bs)

  pub place_stays : (m : ℕ) → place (promoted_with f ss n).blocks m ≡ place f.blocks m
  place_stays m = from_place 0 m f.blocks

  from_leading : (s m p : ℕ) (bs : List Block) → leading m p (promoted_from s bs) ≡ leading m p bs
  from_leading s m p [] = refl
  from_leading s m p (b ∷ bs) = ap (λ (l : List ℕ). repeated p m (successors b.end) ++ l) (from_leading (suc s) m (suc p) bs)

  leading_to_stays : (p : ℕ) (o : Option Block) → leading_to (promoted_with f ss n).blocks (option_map (promoted_at p) o) ≡ leading_to f.blocks o
  leading_to_stays p None = refl
  leading_to_stays p (Some b) = from_leading 0 b.number 0 f.blocks

  pub edges_stay : (p : ℕ) → edges (promoted_with f ss n) p ≡ edges f p
  edges_stay p = ap (leading_to (promoted_with f ss n).blocks) (block_at p) ∙ leading_to_stays p (slice_get f.blocks p)

  from_numbers : (s : ℕ) (bs : List Block) → map (λ b. b.number) (promoted_from s bs) ≡ map (λ b. b.number) bs
  from_numbers s [] = refl
  from_numbers s (b ∷ bs) = ap (λ (l : List ℕ). b.number ∷ l) (from_numbers (suc s) bs)

  pub numbers_stay : numbers (promoted_with f ss n) ≡ numbers f
  numbers_stay = from_numbers 0 f.blocks
