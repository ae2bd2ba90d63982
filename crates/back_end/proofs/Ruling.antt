-- What may stand for a local uses no other symbols than the function.
use Rattle.std.proofs.Common.{◌&&◌, ◌||◌, ◌==◌, ℕ, zero, suc, Bool, true, false, not, List, [], ◌∷◌, ◌++◌, Option, Some, None, if◌then◌else◌}
use Rattle.std.specs.Prelude.{ℤ}
use Rattle.ir_tree.specs.Forms.{Form}
use Rattle.ir_tree.specs.Wholes.{IsKnown}
use Rattle.ir_tree.specs.declared.block.Block.{Block}
use Rattle.ir_tree.specs.declared.instr.BinaryOp.{BinaryOp}
use Rattle.ir_tree.specs.declared.instr.BinaryOp.TheVariants.{Add, Sub, Mul, Shl, Udiv, Sdiv, Lshr, Ashr, Urem, Srem, And, Or, Xor}
use Rattle.ir_tree.specs.declared.instr.CastOp.{CastOp}
use Rattle.ir_tree.specs.declared.instr.Flags.{Flags}
use Rattle.ir_tree.specs.declared.instr.Incoming.{Incoming}
use Rattle.ir_tree.specs.declared.instr.Instr.{Instr}
use Rattle.ir_tree.specs.declared.instr.Instr.TheVariants as kind
use Rattle.ir_tree.specs.declared.instr.Line.{Line}
use Rattle.ir_tree.specs.declared.instr.Phi.{Phi}
use Rattle.ir_tree.specs.declared.instr.Predicate.{Predicate}
use Rattle.ir_tree.specs.declared.instr.Predicate.TheVariants as predicate
use Rattle.ir_tree.specs.declared.operand.Operand.{Operand}
use Rattle.ir_tree.specs.declared.operand.Operand.TheVariants as operand
use Rattle.ir_tree.specs.declared.operand.Reg.{Reg}
use Rattle.ir_tree.specs.declared.operand.Reg.TheVariants.{Int, Ptr}
use Rattle.ir_tree.specs.declared.operand.Symbol.{Symbol}
use Rattle.ir_tree.specs.Symbols.{symbol_eq}
use Rattle.ir_meaning.specs.Operate.{Answer, Is, Never, Unwritten, binary_bits}
use Rattle.ir_meaning.specs.Table.{all_zero, any_poison, binary_rule, cast_constant, cast_numbers, compared_addresses, compared_constants, compared_numbers, comparison_rule, constant_answer, constant_indices, equality, first, folded_or, freeze_rule, frozen_number, is_number, is_poison, number_of, poisoned, rule, same, selected_number, symbol_at, truth, unchanged, when, zeroed}
use Rattle.ir_meaning.specs.declared.value.Value.TheVariants.{Number, Pointer, Poison}
use Rattle.ir_meaning.specs.Facts.{Facts, is_local, is_phi_operand}
use Rattle.ir_facts.specs.Candidates.{block_candidates, blocks_candidates, first_other, line_candidates, line_source, other_than, paired, phi_candidates, phi_source, result_candidate, sole_source, takes_only}
use Rattle.back_end.proofs.Naming.{BlocksKnown, EntriesKnown, InstrKnown, LinesKnown, PhisKnown}

module _ (known : List Symbol) where
  abbrev Knows : Operand → Type 0
  Knows o = IsKnown known o

  -- one, if there is one
  abbrev Maybe : Option Operand → Type 0
  Maybe None = Unit {0}
  Maybe (Some v) = IsKnown known v

  by_first : (a b : Option Operand) → Maybe a → Maybe b → Maybe (first a b)
  by_first None b h g = g
  by_first (Some v) b h g = h

  by_when : (b : Bool) (v : Operand) → Knows v → Maybe (when b v)
  by_when true v h = h
  by_when false v h = tt

  -- ---- operations

  by_answer : (w : ℕ) (a : Answer) → Maybe (constant_answer w a)
  by_answer w (Is (Number n)) = tt
  by_answer w (Is Poison) = tt
  by_answer w (Is (Pointer x i)) = tt
  by_answer w (Never cause) = tt
  by_answer w Unwritten = tt

  by_folded : (op : BinaryOp) (f : Flags) (w : ℕ) (l r : Option ℕ) (later : Option Operand) → Maybe later → Maybe (folded_or op f w l r later)
  by_folded op f w (Some a) (Some b) later h = by_answer w (binary_bits op f w (Some a) (Some b))
  by_folded op f w (Some a) None later h = h
  by_folded op f w None (Some b) later h = h
  by_folded op f w None None later h = h

  by_unchanged : (op : BinaryOp) (w : ℕ) (l r : Operand) → Knows l → Knows r → Maybe (unchanged op w l r)
  by_unchanged Add w l r h g = by_first (when (is_number 0 r) l) (when (is_number 0 l) r) (by_when (is_number 0 r) l h) (by_when (is_number 0 l) r g)
  by_unchanged Sub w l r h g = by_when (is_number 0 r) l h
  by_unchanged Mul w l r h g = by_first (when (is_number 1 r) l) (when (is_number 1 l) r) (by_when (is_number 1 r) l h) (by_when (is_number 1 l) r g)
  by_unchanged Udiv w l r h g = by_when (is_number 1 r) l h
  by_unchanged Sdiv w l r h g = by_when (is_number 1 r) l h
  by_unchanged Shl w l r h g = by_when (is_number 0 r) l h
  by_unchanged Lshr w l r h g = by_when (is_number 0 r) l h
  by_unchanged Ashr w l r h g = by_when (is_number 0 r) l h
  by_unchanged And w l r h g = by_first _ _ (by_when _ l h) (by_when (same l r) l h)
  by_unchanged Or w l r h g = by_first _ _ (by_when _ l h) (by_when (same l r) l h)
  by_unchanged Xor w l r h g = by_when (is_number 0 r) l h
  by_unchanged Urem w l r h g = tt
  by_unchanged Srem w l r h g = tt

  by_zeroed : (op : BinaryOp) (w : ℕ) (l r : Operand) → Maybe (zeroed op w l r)
  by_zeroed Mul w l r = by_when (is_number 0 r || is_number 0 l) (operand.Number w 0) tt
  by_zeroed And w l r = by_when (is_number 0 r) (operand.Number w 0) tt
  by_zeroed Sub w l r = by_when (same l r) (operand.Number w 0) tt
  by_zeroed Xor w l r = by_when (same l r) (operand.Number w 0) tt
  by_zeroed Urem w l r = by_when (is_number 1 r) (operand.Number w 0) tt
  by_zeroed Srem w l r = by_when (is_number 1 r) (operand.Number w 0) tt
  by_zeroed Add w l r = tt
  by_zeroed Shl w l r = tt
  by_zeroed Udiv w l r = tt
  by_zeroed Sdiv w l r = tt
  by_zeroed Lshr w l r = tt
  by_zeroed Ashr w l r = tt
  by_zeroed Or w l r = tt

  by_binary : (op : BinaryOp) (f : Flags) (w : ℕ) (l r : Operand) → Knows l → Knows r → Maybe (binary_rule op f w l r)
  by_binary op f w l r h g =
      by_folded op f w (number_of w l) (number_of w r) (first (poisoned op w l r) (first (unchanged op w l r) (zeroed op w l r)))
      (by_first (poisoned op w l r) (first (unchanged op w l r) (zeroed op w l r)) (by_when _ (operand.Poison (Int w)) tt)
      (by_first (unchanged op w l r) (zeroed op w l r) (by_unchanged op w l r h g) (by_zeroed op w l r)))

  -- ---- comparisons

  by_numbers : (p : Predicate) (w : ℕ) (l r : Option ℕ) → Maybe (compared_numbers p w l r)
  by_numbers p w (Some a) (Some b) = tt
  by_numbers p w (Some a) None = tt
  by_numbers p w None (Some b) = tt
  by_numbers p w None None = tt

  by_constants : (p : Predicate) (reg : Reg) (l r : Operand) → Maybe (compared_constants p reg l r)
  by_constants p (Int w) l r = by_numbers p w (number_of w l) (number_of w r)
  by_constants p Ptr l r = tt

  by_equality : (p : Predicate) (equal : Bool) → Maybe (equality p equal)
  by_equality predicate.Eq equal = tt
  by_equality predicate.Ne equal = tt
  by_equality predicate.Ugt equal = tt
  by_equality predicate.Uge equal = tt
  by_equality predicate.Ult equal = tt
  by_equality predicate.Ule equal = tt
  by_equality predicate.Sgt equal = tt
  by_equality predicate.Sge equal = tt
  by_equality predicate.Slt equal = tt
  by_equality predicate.Sle equal = tt

  by_either : (b : Bool) (o : Option Operand) → Maybe o → Maybe (if b then o else None)
  by_either true o h = h
  by_either false o h = tt

  by_addresses : (p : Predicate) (reg : Reg) (l r : Operand) → Maybe (compared_addresses p reg l r)
  by_addresses p Ptr operand.Null (operand.Symbol s zero) = by_equality p false
  by_addresses p Ptr operand.Null (operand.Symbol s (suc n)) = tt
  by_addresses p Ptr operand.Null (operand.Local x) = tt
  by_addresses p Ptr operand.Null (operand.Number w n) = tt
  by_addresses p Ptr operand.Null operand.Null = tt
  by_addresses p Ptr operand.Null (operand.Poison q) = tt
  by_addresses p Ptr (operand.Symbol s zero) operand.Null = by_equality p false
  by_addresses p Ptr (operand.Symbol s zero) (operand.Symbol t j) = by_either (symbol_eq s t) (equality p (0 == j)) (by_equality p (0 == j))
  by_addresses p Ptr (operand.Symbol s zero) (operand.Local x) = tt
  by_addresses p Ptr (operand.Symbol s zero) (operand.Number w n) = tt
  by_addresses p Ptr (operand.Symbol s zero) (operand.Poison q) = tt
  by_addresses p Ptr (operand.Symbol s (suc i)) operand.Null = tt
  by_addresses p Ptr (operand.Symbol s (suc i)) (operand.Symbol t j) = by_either (symbol_eq s t) (equality p (suc i == j)) (by_equality p (suc i == j))
  by_addresses p Ptr (operand.Symbol s (suc i)) (operand.Local x) = tt
  by_addresses p Ptr (operand.Symbol s (suc i)) (operand.Number w n) = tt
  by_addresses p Ptr (operand.Symbol s (suc i)) (operand.Poison q) = tt
  by_addresses p Ptr (operand.Local x) r = tt
  by_addresses p Ptr (operand.Number w n) r = tt
  by_addresses p Ptr (operand.Poison q) r = tt
  by_addresses p (Int w) l r = tt

  by_comparison : (p : Predicate) (reg : Reg) (l r : Operand) → Maybe (comparison_rule p reg l r)
  by_comparison p reg l r =
      by_first (compared_constants p reg l r) _ (by_constants p reg l r)
      (by_first (when (is_poison l || is_poison r) (operand.Poison (Int 1))) _ (by_when _ (operand.Poison (Int 1)) tt)
      (by_first (when (same l r) (truth _)) (compared_addresses p reg l r) (by_when (same l r) _ tt) (by_addresses p reg l r)))

  -- ---- casts, selects, freezes, addresses

  by_cast_numbers : (op : CastOp) (from to : ℕ) (o : Option ℕ) → Maybe (cast_numbers op from to o)
  by_cast_numbers op from to (Some a) = tt
  by_cast_numbers op from to None = tt

  by_cast_constant : (op : CastOp) (from to : Reg) (o : Operand) → Maybe (cast_constant op from to o)
  by_cast_constant op (Int from) (Int to) o = by_cast_numbers op from to (number_of from o)
  by_cast_constant op (Int from) Ptr o = tt
  by_cast_constant op Ptr to o = tt

  by_selected : (n : Option ℕ) (a b : Operand) → Knows a → Knows b → Maybe (selected_number n a b)
  by_selected (Some zero) a b h g = g
  by_selected (Some (suc n)) a b h g = h
  by_selected None a b h g = tt

  by_frozen : (w : ℕ) (o : Option ℕ) → Maybe (frozen_number w o)
  by_frozen w (Some a) = tt
  by_frozen w None = tt

  by_freeze : (reg : Reg) (o : Operand) → Maybe (freeze_rule reg o)
  by_freeze (Int w) o = by_first (frozen_number w (number_of w o)) (when (is_poison o) (operand.Number w 0)) (by_frozen w (number_of w o)) (by_when (is_poison o) (operand.Number w 0) tt)
  by_freeze Ptr o = tt

  by_symbol : (shape : Form) (o : Operand) (is : Option (List ℤ)) → Knows o → Maybe (symbol_at shape o is)
  by_symbol shape (operand.Symbol s offset) (Some indices) h = h
  by_symbol shape (operand.Symbol s offset) None h = tt
  by_symbol shape (operand.Local x) is h = tt
  by_symbol shape (operand.Number w n) is h = tt
  by_symbol shape operand.Null is h = tt
  by_symbol shape (operand.Poison q) is h = tt

  -- ---- the table

  by_rule : (i : Instr) → InstrKnown known i → Maybe (rule i)
  by_rule (kind.Binary op f w l r) h = by_binary op f w l r h.0.0 h.0.1.0
  by_rule (kind.Icmp p reg l r) h = by_comparison p reg l r
  by_rule (kind.Cast op from o to) h = by_first (cast_constant op from to o) (when (is_poison o) (operand.Poison to)) (by_cast_constant op from to o) (by_when (is_poison o) (operand.Poison to) tt)
  by_rule (kind.Select c a b) h =
      by_first (when (is_poison c) (operand.Poison a.reg)) _ (by_when (is_poison c) (operand.Poison a.reg) tt)
      (by_first (selected_number (number_of 1 c) a.operand b.operand) (when (same a.operand b.operand) a.operand) (by_selected (number_of 1 c) a.operand b.operand h.0.1.0 h.0.1.1.0) (by_when (same a.operand b.operand) a.operand h.0.1.0))
  by_rule (kind.Freeze reg o) h = by_freeze reg o
  by_rule (kind.Address inbounds shape base indices) h =
      by_first (when (is_poison base || any_poison indices) (operand.Poison Ptr)) _ (by_when _ (operand.Poison Ptr) tt)
      (by_first (when (all_zero indices) base) (symbol_at shape base (constant_indices indices)) (by_when (all_zero indices) base h.0.0) (by_symbol shape base (constant_indices indices) h.0.0))
  by_rule (kind.Alloca shape align) h = tt
  by_rule (kind.Load reg address align) h = tt
  by_rule (kind.Store reg value address align) h = tt
  by_rule (kind.Call result callee arguments) h = tt
  by_rule (kind.Phi reg incoming) h = tt

  -- ---- candidates

  abbrev pub FactsKnown : Facts → Type 0
  FactsKnown [] = Unit {0}
  FactsKnown (f ∷ fs) = IsKnown known f.1 × FactsKnown fs

  facts_both : (fs gs : Facts) → FactsKnown fs → FactsKnown gs → FactsKnown (fs ++ gs)
  facts_both [] gs h g = g
  facts_both (f ∷ fs) gs h g = (h.0, facts_both fs gs h.1 g)

  by_paired : (x : ℕ) (o : Option Operand) → Maybe o → FactsKnown (paired x o)
  by_paired x None h = tt
  by_paired x (Some v) h = (h, tt)

  by_other : (x : ℕ) (es : List Incoming) → EntriesKnown known es → Maybe (first_other x es)
  by_other x [] h = tt
  by_other x (e ∷ es) h = by (is_local x e.value) (by_other x es h.1)
    where
      by : (b : Bool) → Maybe (first_other x es) → Maybe (if b then first_other x es else Some e.value)
      by true rest = rest
      by false rest = h.0

  by_source : (ps : List Phi) (x : ℕ) (es : List Incoming) (o : Option Operand) → Maybe o → Maybe (sole_source ps x es o)
  by_source ps x es None h = tt
  by_source ps x es (Some v) h = by (takes_only x v es && not (is_phi_operand v ps))
    where
      by : (b : Bool) → Maybe (if b then Some v else None)
      by true = h
      by false = tt

  by_phis : (all ps : List Phi) → PhisKnown known ps → FactsKnown (phi_candidates all ps)
  by_phis all [] h = tt
  by_phis all (p ∷ ps) h =
      facts_both (paired p.local (phi_source all p)) (phi_candidates all ps)
      (by_paired p.local (phi_source all p) (by_source all p.local p.incoming (first_other p.local p.incoming) (by_other p.local p.incoming h.0))) (by_phis all ps h.1)

  by_other_than : (x : ℕ) (o : Option Operand) → Maybe o → Maybe (other_than x o)
  by_other_than x None h = tt
  by_other_than x (Some v) h = by (is_local x v)
    where
      by : (b : Bool) → Maybe (if b then None else Some v)
      by true = tt
      by false = h

  by_result : (l : Option ℕ) (i : Instr) → InstrKnown known i → FactsKnown (result_candidate l i)
  by_result None i h = tt
  by_result (Some x) i h = by_paired x (line_source x i) (by_other_than x (rule i) (by_rule i h))

  by_lines : (ls : List Line) → LinesKnown known ls → FactsKnown (line_candidates ls)
  by_lines [] h = tt
  by_lines (l ∷ ls) h = facts_both (result_candidate l.local l.instr) (line_candidates ls) (by_result l.local l.instr h.0) (by_lines ls h.1)

  pub by_blocks : (bs : List Block) → BlocksKnown known bs → FactsKnown (blocks_candidates bs)
  unfolding block_candidates
  by_blocks [] h = tt
  by_blocks (b ∷ bs) h =
      facts_both (phi_candidates b.phis b.phis ++ line_candidates b.lines) (blocks_candidates bs)
      (facts_both (phi_candidates b.phis b.phis) (line_candidates b.lines) (by_phis b.phis b.phis h.0.phis) (by_lines b.lines h.0.lines)) (by_blocks bs h.1)
