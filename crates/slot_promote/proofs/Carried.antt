-- What is said of a kept operand in the function is said of it in the promoted one, and the values of slots are good.
use Rattle.std.proofs.Common.{◌≡◌, ℕ, zero, suc, ◌+◌, ◌≤◌, nat_eq, Bool, true, false, not, List, [], ◌∷◌, ◌++◌, length, map, Option, Some, None, option_map, ◌⊎◌, inl, inr, refl, sym, ◌∙◌, ap, subst, arith, if◌then◌else◌, append_assoc, append-nil, length-append}
use Rattle.std.specs.Prelude.{All, slice_get, flat_map, filter_map}
use Rattle.std.specs.List.{cons_option}
use Rattle.std.proofs.lemmas.List.Elements.{All-head, All-tail}
use Rattle.ir_tree.specs.Flow.{edges, holds, locals}
use Rattle.ir_tree.specs.Formed.{ArgumentFormed, IsReg, ItemFormed, OperandFormed, ResultFormed, numbers}
use Rattle.ir_tree.specs.Items.{line_item, lines_from, phi_reads, reads, typed}
use Rattle.ir_tree.specs.Rules.{HasType, IsThere, Keeps, Sound, Typing, block_typings, line_typing, result_type, type_of, typing, typings}
use Rattle.ir_tree.specs.declared.block.Block.{Block}
use Rattle.ir_tree.specs.declared.function.Function.{Function}
use Rattle.ir_tree.specs.declared.instr.Instr.{Instr}
use Rattle.ir_tree.specs.declared.instr.Instr.TheVariants as kind
use Rattle.ir_tree.specs.declared.instr.Line.{Line}
use Rattle.ir_tree.specs.declared.instr.Phi.{Phi}
use Rattle.ir_tree.specs.declared.operand.Operand.{Operand}
use Rattle.ir_tree.specs.declared.operand.Operand.TheVariants.{Local, Number, Null, Poison, Symbol as Named}
use Rattle.ir_tree.specs.declared.operand.Reg.{Reg}
use Rattle.ir_tree.specs.declared.operand.Reg.TheVariants.{Ptr}
use Rattle.ir_tree.specs.declared.rule.Rule.TheVariants.{TypeMismatch, NotAvailable}
use Rattle.ir_meaning.specs.Needed.{IsKept}
use Rattle.ir_meaning.specs.Promote.{Current, Fetches, Makes, Other, Use, Writes, behind, put}
use Rattle.ir_edit.proofs.Tally.{tally, tally_both, tally_once}
use Rattle.slot_promote.specs.Promoted.{End, end_at, first_at, new_phis, next_number, phis_from, promoted_with}
use Rattle.slot_promote.specs.Values.{at_start, behind_line, behind_lines, goes, is_there, placed, rank_of, reg_of, regs, use_of, value_at_start, without_slots}
use Rattle.slot_promote.specs.declared.slots.SlotRank.{SlotRank}
use Rattle.promotable_slots.specs.declared.slots.Slot.{Slot}
use Rattle.slot_promote.proofs.Facts.{in_block, in_lines}
use Rattle.slot_promote.proofs.Lines.{AllTidy, Tidy, both, line_with}
use Rattle.slot_promote.proofs.Once.{news, once_stays}
use Rattle.slot_promote.proofs.Paths.{found_new, local_stays, moved, new_local, new_there, one_later, there_stays}
use Rattle.slot_promote.proofs.Plans.{LineFits, fits_at, line_fact, made_slot, plan, slot_stored}
use Rattle.slot_promote.proofs.Shapes.{promoted_at, promoted_from, put_is}
use Rattle.slot_promote.proofs.Slotted.{AreRight, Stands, scalar_reg, stands}
use Rattle.slot_promote.proofs.Tests.{and_left, and_right, clash, not_true}
use Rattle.slot_promote.proofs.Typed.{In, in_back, in_either, in_front, type_is, typed_in}
use Rattle.std.proofs.lemmas.Bool.{eq-eqb, eqb-true, or_left, or_right}

-- ---- lines that go give slots alone their addresses

tidy_line : (at : ℕ → Option SlotRank) (local : Option ℕ) (i : Instr) → ResultFormed i local → Tidy at (record { local = local; instr = i })
tidy_line at local (kind.Binary op flags width left right) r h = absurd cc
tidy_line at local (kind.Icmp predicate reg left right) r h = absurd cc
tidy_line at local (kind.Cast op from value to) r h = absurd cc
tidy_line at local (kind.Select condition if_true if_false) r h = absurd cc
tidy_line at local (kind.Freeze reg value) r h = absurd cc
tidy_line at None (kind.Alloca shape align) r h = absurd cc
tidy_line at (Some y) (kind.Alloca shape align) r h = λ x e. let same : y ≡ x = cc e in subst (λ (z : ℕ). is_there (at z) ≡ true) same h
tidy_line at local (kind.Load reg address align) r h = absurd cc
tidy_line at local (kind.Store reg value address align) r h = λ x e. let none : None ≡ Some x = sym r ∙ e in absurd (cc none)
tidy_line at local (kind.Address inbounds shape base indices) r h = absurd cc
tidy_line at local (kind.Call result callee arguments) r h = absurd cc
tidy_line at local (kind.Phi reg incoming) r h = absurd cc

pub behind_front : (front : List Line) (l : Line) (rest : List Line) → slice_get (front ++ l ∷ rest) (length front) ≡ Some l
behind_front [] l rest = refl
behind_front (x ∷ front) l rest = behind_front front l rest

-- ---- new phis

phi_held : (ends : ℕ → End) (from : List ℕ) (k i : ℕ) (ss : List Slot) (s : Slot) → slice_get ss i ≡ Some s → holds (map (λ p. p.local) (phis_from ends from k ss)) (k + i) ≡ true
phi_held ends from k i [] s found = absurd cc
phi_held ends from k zero (x ∷ ss) s found = or_left (nat_eq (k + 0) k) (holds (map (λ p. p.local) (phis_from ends from (suc k) ss)) (k + 0)) (eq-eqb (k + 0) k (omega arith))
phi_held ends from k (suc i) (x ∷ ss) s found =
    or_right (nat_eq (k + suc i) k) (holds (map (λ p. p.local) (phis_from ends from (suc k) ss)) (k + suc i))
    (subst (λ (v : ℕ). holds (map (λ p. p.local) (phis_from ends from (suc k) ss)) v ≡ true) (omega arith) (phi_held ends from (suc k) i ss s found))

phi_typed : (ends : ℕ → End) (from : List ℕ) (k i : ℕ) (ss : List Slot) (s : Slot) → slice_get ss i ≡ Some s → In (k + i, Some s.reg) (map (λ p. (p.local, Some p.reg)) (phis_from ends from k ss))
phi_typed ends from k i [] s found = absurd cc
phi_typed ends from k zero (x ∷ ss) s found = let same : x ≡ s = cc found in inl (λ j. (sum j, Some ((same j).reg)))
  where
    sum : k ≡ k + 0
    sum = omega arith
phi_typed ends from k (suc i) (x ∷ ss) s found =
    inr (subst (λ (v : ℕ). In (v, Some s.reg) (map (λ p. (p.local, Some p.reg)) (phis_from ends from (suc k) ss))) (omega arith) (phi_typed ends from (suc k) i ss s found))

more_phis : (t : Typing) (ns ps : List Phi) → In t (map (λ p. (p.local, Some p.reg)) ns) → In t (map (λ p. (p.local, Some p.reg)) (ns ++ ps))
more_phis t [] ps h = absurd h
more_phis t (p ∷ ns) ps (inl e) = inl e
more_phis t (p ∷ ns) ps (inr h) = inr (more_phis t ns ps h)

phis_after : (t : Typing) (ns ps : List Phi) → In t (map (λ p. (p.local, Some p.reg)) ps) → In t (map (λ p. (p.local, Some p.reg)) (ns ++ ps))
phis_after t [] ps h = h
phis_after t (p ∷ ns) ps h = inr (phis_after t ns ps h)

in_blocks : (t : Typing) (bs : List Block) (b : ℕ) (block : Block) → slice_get bs b ≡ Some block → In t (block_typings block) → In t (flat_map block_typings bs)
in_blocks t [] b block found h = absurd cc
in_blocks t (x ∷ bs) zero block found h =
    let same : x ≡ block = cc found in
    in_front t (block_typings x) (flat_map block_typings bs) (subst (λ (y : Block). In t (block_typings y)) (sym same) h)
in_blocks t (x ∷ bs) (suc b) block found h = in_back t (block_typings x) (flat_map block_typings bs) (in_blocks t bs b block found h)

module _ (f : Function) (ss : List Slot) (n : ℕ) (sound : Sound f) (right : AreRight f ss) (above : next_number f ≤ n) where
  abbrev g : Function
  g = promoted_with f ss n

  abbrev keeps : ℕ → Bool
  keeps = (plan f ss n).keeps

  abbrev IsOut : ℕ → Type 0
  IsOut x = is_there (placed 0 ss x) ≡ false

  all_tidy : (b k : ℕ) (ls : List Line) → All (ItemFormed f) (lines_from b k ls) → AllTidy (placed 0 ss) ls
  all_tidy b k [] h = tt
  all_tidy b k (l ∷ ls) h = (
    tidy_line (placed 0 ss) l.local l.instr (All-head (ItemFormed f) (line_item b k l) (lines_from b (suc k) ls) h).kind.1,
    all_tidy b (suc k) ls (All-tail (ItemFormed f) (line_item b k l) (lines_from b (suc k) ls) h),
  )

  pub tidy : (b : ℕ) (block : Block) → slice_get f.blocks b ≡ Some block → AllTidy (placed 0 ss) block.lines
  tidy b block found = all_tidy b 0 block.lines (in_lines (ItemFormed f) b block (in_block (ItemFormed f) f b block found sound.formed.items))

  kept_out : (x : ℕ) → keeps x ≡ true → IsOut x
  kept_out x k = not_true (is_there (placed 0 ss x)) (and_left (not (is_there (placed 0 ss x))) (holds (locals f) x) k)

  kept_local : (x : ℕ) → keeps x ≡ true → holds (locals f) x ≡ true
  kept_local x k = and_right (not (is_there (placed 0 ss x))) (holds (locals f) x) k

  pub keep_formed : (o : Operand) → IsKept keeps o → OperandFormed f o → OperandFormed g o
  keep_formed (Local x) k h = local_stays f ss n tidy x (kept_out x k) (kept_local x k)
  keep_formed (Number width bits) k h = h
  keep_formed Null k h = h
  keep_formed (Poison reg) k h = h
  keep_formed (Named symbol offset) k h = h

  -- ---- types

  pub once : (x : ℕ) → tally x (locals g) ≤ 1
  once x =
      let all : tally x (locals g ++ numbers g) ≤ 1 = tally_once x (locals g ++ numbers g) (once_stays f ss n sound.formed above) in
      let both : tally x (locals g ++ numbers g) ≡ tally x (locals g) + tally x (numbers g) = tally_both x (locals g) (numbers g) in
      omega (arith, all, both)

  abbrev In_lines : Typing → List Line → Type 0
  In_lines t ls = In t (filter_map line_typing ls)

  abbrev with_type : ℕ → Option Reg → Typing
  with_type x r = (x, r)

  -- the typing is that of a line's local
  abbrev IsNamed : Typing → Option ℕ → Option Reg → Type 0
  IsNamed t o r = (x : ℕ) × (o ≡ Some x) × (with_type x r ≡ t)

  named_in : (t : Typing) (o : Option ℕ) (r : Option Reg) (ts : List Typing) → In t (cons_option (option_map (λ x. (x, r)) o) ts) → IsNamed t o r ⊎ In t ts
  named_in t None r ts h = inr h
  named_in t (Some x) r ts (inl e) = inl (x, refl, e)
  named_in t (Some x) r ts (inr h) = inr h

  in_named : (t : Typing) (o : Option ℕ) (r : Option Reg) (ts : List Typing) → IsNamed t o r ⊎ In t ts → In t (cons_option (option_map (λ x. (x, r)) o) ts)
  in_named t None r ts (inl (x, is, e)) = absurd cc
  in_named t None r ts (inr h) = h
  in_named t (Some y) r ts (inl (x, is, e)) = let same : y ≡ x = cc is in inl (ap (λ (z : ℕ). with_type z r) same ∙ e)
  in_named t (Some y) r ts (inr h) = inr h

  line_stays : (z : ℕ) (reg : Reg) → IsOut z → (c : Current) (l : Line) (ls rest : List Line) → (u : Use) → LineFits f ss n sound right u l
      → (In_lines (z, Some reg) ls → In_lines (z, Some reg) rest) → In_lines (z, Some reg) (l ∷ ls) → In_lines (z, Some reg) (put (λ x. reg_of (placed 0 ss x)) u c l rest)
  line_stays z reg out c l ls rest (Makes x) h more i = by (named_in (z, Some reg) l.local (result_type l.instr) (filter_map line_typing ls) i)
    where
      by : IsNamed (z, Some reg) l.local (result_type l.instr) ⊎ In_lines (z, Some reg) ls → In_lines (z, Some reg) rest
      by (inl (y, is, e)) =
          let named : Some x ≡ Some y = sym h.1 ∙ is in
          let first : x ≡ y = cc named in
          let same : x ≡ z = first ∙ ap (λ (t : Typing). t.0) e in
          absurd (clash (is_there (placed 0 ss z)) (subst (λ (w : ℕ). is_there (placed 0 ss w) ≡ true) same h.0) out)
      by (inr k) = more k
  line_stays z reg out c l ls rest (Writes x o) h more i = by (named_in (z, Some reg) l.local (result_type l.instr) (filter_map line_typing ls) i)
    where
      by : IsNamed (z, Some reg) l.local (result_type l.instr) ⊎ In_lines (z, Some reg) ls → In_lines (z, Some reg) rest
      by (inl (y, is, e)) = let none : None ≡ Some reg = sym (ap result_type h.4) ∙ ap (λ (t : Typing). t.1) e in absurd (cc none)
      by (inr k) = more k
  line_stays z reg out c l ls rest (Fetches x) h more i = by (named_in (z, Some reg) l.local (result_type l.instr) (filter_map line_typing ls) i)
    where
      by : IsNamed (z, Some reg) l.local (result_type l.instr) ⊎ In_lines (z, Some reg) ls → In_lines (z, Some reg) (put (λ x. reg_of (placed 0 ss x)) (Fetches x) c l rest)
      by (inl (y, is, e)) = in_named (z, Some reg) l.local (Some (reg_of (placed 0 ss x))) (filter_map line_typing rest) (inl (y, is, ap (with_type y) (sym (ap result_type h.3)) ∙ e))
      by (inr k) = in_named (z, Some reg) l.local (Some (reg_of (placed 0 ss x))) (filter_map line_typing rest) (inr (more k))
  line_stays z reg out c l ls rest Other h more i = by (named_in (z, Some reg) l.local (result_type l.instr) (filter_map line_typing ls) i)
    where
      by : IsNamed (z, Some reg) l.local (result_type l.instr) ⊎ In_lines (z, Some reg) ls → In_lines (z, Some reg) (l ∷ rest)
      by (inl k) = in_named (z, Some reg) l.local (result_type l.instr) (filter_map line_typing rest) (inl k)
      by (inr k) = in_named (z, Some reg) l.local (result_type l.instr) (filter_map line_typing rest) (inr (more k))

  lines_stay : (z : ℕ) (reg : Reg) → IsOut z → (b : ℕ) (block : Block) → slice_get f.blocks b ≡ Some block → (c : Current) (k : ℕ) (ls : List Line) → ((j : ℕ) → slice_get block.lines (k + j) ≡ slice_get ls j)
      → In_lines (z, Some reg) ls → In_lines (z, Some reg) (without_slots (placed 0 ss) c ls)
  lines_stay z reg out b block found c k [] same h = h
  lines_stay z reg out b block found c k (l ∷ ls) same h =
      subst (In_lines (z, Some reg)) (put_is (placed 0 ss) c l.local l.instr (without_slots (placed 0 ss) (behind_line (placed 0 ss) l c) ls))
      (line_stays z reg out c l ls (without_slots (placed 0 ss) (behind_line (placed 0 ss) l c) ls) (use_of (placed 0 ss) l.local l.instr)
      (fits_at f ss n sound right b block found k l (ap (slice_get block.lines) (omega arith) ∙ same 0))
      (lines_stay z reg out b block found (behind_line (placed 0 ss) l c) (suc k) ls (λ j. ap (slice_get block.lines) (omega arith) ∙ same (suc j))) h)

  block_stays : (z : ℕ) (reg : Reg) → IsOut z → (b : ℕ) (block : Block) → slice_get f.blocks b ≡ Some block → In (z, Some reg) (block_typings block) → In (z, Some reg) (block_typings (promoted_at f ss n b block))
  block_stays z reg out b block found h = by (in_either (z, Some reg) (map (λ p. (p.local, Some p.reg)) block.phis) (filter_map line_typing block.lines) h)
    where
      by : In (z, Some reg) (map (λ p. (p.local, Some p.reg)) block.phis) ⊎ In_lines (z, Some reg) block.lines → In (z, Some reg) (block_typings (promoted_at f ss n b block))
      by (inl e) =
          in_front (z, Some reg) (map (λ p. (p.local, Some p.reg)) (promoted_at f ss n b block).phis) (filter_map line_typing (promoted_at f ss n b block).lines) (phis_after (z, Some reg) (news f ss n b) block.phis e)
      by (inr e) =
          in_back (z, Some reg) (map (λ p. (p.local, Some p.reg)) (promoted_at f ss n b block).phis) (filter_map line_typing (promoted_at f ss n b block).lines)
          (lines_stay z reg out b block found (at_start (placed 0 ss) (first_at f ss n b)) 0 block.lines (λ j. ap (slice_get block.lines) (omega arith)) e)

  blocks_stay : (z : ℕ) (reg : Reg) → IsOut z → (s : ℕ) (bs : List Block) → ((i : ℕ) → slice_get f.blocks (s + i) ≡ slice_get bs i) → In (z, Some reg) (flat_map block_typings bs) → In (z, Some reg) (flat_map block_typings (promoted_from f ss n s bs))
  blocks_stay z reg out s [] same h = h
  blocks_stay z reg out s (b ∷ bs) same h =
      by (in_either (z, Some reg) (block_typings b) (flat_map block_typings bs) h) (blocks_stay z reg out (suc s) bs (λ i. ap (slice_get f.blocks) (omega arith) ∙ same (suc i)))
    where
      by : In (z, Some reg) (block_typings b) ⊎ In (z, Some reg) (flat_map block_typings bs) → (In (z, Some reg) (flat_map block_typings bs) → In (z, Some reg) (flat_map block_typings (promoted_from f ss n (suc s) bs)))
          → In (z, Some reg) (block_typings (promoted_at f ss n s b) ++ flat_map block_typings (promoted_from f ss n (suc s) bs))
      by (inl e) more =
          in_front (z, Some reg) (block_typings (promoted_at f ss n s b)) (flat_map block_typings (promoted_from f ss n (suc s) bs))
          (block_stays z reg out s b (ap (slice_get f.blocks) (omega arith) ∙ same 0) e)
      by (inr e) more = in_back (z, Some reg) (block_typings (promoted_at f ss n s b)) (flat_map block_typings (promoted_from f ss n (suc s) bs)) (more e)

  type_stays : (z : ℕ) (reg : Reg) → IsOut z → typing (typings f) z ≡ Some reg → typing (typings g) z ≡ Some reg
  type_stays z reg out h = type_is g z (Some reg) (once z) (by (in_either (z, Some reg) (map (λ p. (p.local, Some p.reg)) f.params) (flat_map block_typings f.blocks) (typed_in (typings f) z reg h)))
    where
      by : In (z, Some reg) (map (λ p. (p.local, Some p.reg)) f.params) ⊎ In (z, Some reg) (flat_map block_typings f.blocks) → In (z, Some reg) (typings g)
      by (inl e) = in_front (z, Some reg) (map (λ p. (p.local, Some p.reg)) f.params) (flat_map block_typings g.blocks) e
      by (inr e) = in_back (z, Some reg) (map (λ p. (p.local, Some p.reg)) f.params) (flat_map block_typings g.blocks) (blocks_stay z reg out 0 f.blocks (λ i. ap (slice_get f.blocks) (omega arith)) e)

  pub keep_type : (o : Operand) (reg : Reg) → IsKept keeps o → type_of f o ≡ Some reg → type_of g o ≡ Some reg
  keep_type (Local x) reg k h = type_stays x reg (kept_out x k) h
  keep_type (Number width bits) reg k h = h
  keep_type Null reg k h = h
  keep_type (Poison r) reg k h = h
  keep_type (Named symbol offset) reg k h = h

  pub keep_there : (b : ℕ) (block : Block) (found : slice_get f.blocks b ≡ Some block) (front rest : List Line) → block.lines ≡ front ++ rest → (o : Operand) → IsKept keeps o
      → IsThere f b (length front) o → IsThere g b (moved f ss n tidy b block found front) o
  keep_there b block found front rest is (Local x) k h = there_stays f ss n tidy b block found front rest is x (kept_out x k) (kept_local x k) h
  keep_there b block found front rest is (Number width bits) k h = tt
  keep_there b block found front rest is Null k h = tt
  keep_there b block found front rest is (Poison reg) k h = tt
  keep_there b block found front rest is (Named symbol offset) k h = tt

  -- ---- the values of slots

  pub record Good (b j : ℕ) (reg : Reg) (o : Operand) : Type 0 where
    pub formed : OperandFormed g o
    pub has_type : type_of g o ≡ Some reg
    pub there : IsThere g b j o

  later : (b j : ℕ) (o : Operand) → IsThere g b j o → IsThere g b (suc j) o
  later b j (Local x) h = one_later f ss n tidy b j x h
  later b j (Number width bits) h = tt
  later b j Null h = tt
  later b j (Poison reg) h = tt
  later b j (Named symbol offset) h = tt

  good_later : (b j : ℕ) (reg : Reg) (o : Operand) → Good b j reg o → Good b (suc j) reg o
  good_later b j reg o h = record { formed = h.formed; has_type = h.has_type; there = later b j o h.there }

  abbrev pub AllGood : ℕ → ℕ → Current → Type 0
  AllGood b j c = (x : ℕ) → is_there (placed 0 ss x) ≡ true → Good b j (regs (placed 0 ss) x) (c x)

  start_good : (b : ℕ) (block : Block) → slice_get f.blocks b ≡ Some block → (o : Option ℕ) → first_at f ss n b ≡ o → AllGood b 0 (λ x. value_at_start o (placed 0 ss x))
  start_good b block found None is x s =
      record { formed = scalar_reg (made_slot f ss n sound right x s).shape (regs (placed 0 ss) x) (slot_stored f ss n sound right x s) (made_slot f ss n sound right x s).scalar_is; has_type = refl; there = tt }
  start_good b block found (Some m) is x s = by (stands 0 ss x s)
    where
      news_is : news f ss n b ≡ phis_from (end_at f ss n) (edges f b) m ss
      news_is = ap (λ (o : Option ℕ). new_phis (end_at f ss n) (edges f b) o ss) is

      good : (i : ℕ) (slot : Slot) → slice_get ss i ≡ Some slot → Good b 0 slot.reg (Local (m + i))
      good i slot at_i =
          let held : holds (map (λ p. p.local) (news f ss n b)) (m + i) ≡ true = subst (λ (ps : List Phi). holds (map (λ p. p.local) ps) (m + i) ≡ true) (sym news_is) (phi_held (end_at f ss n) (edges f b) m i ss slot at_i) in
          let typing_in : In (m + i, Some slot.reg) (map (λ p. (p.local, Some p.reg)) (news f ss n b)) =
          subst (λ (ps : List Phi). In (m + i, Some slot.reg) (map (λ p. (p.local, Some p.reg)) ps)) (sym news_is) (phi_typed (end_at f ss n) (edges f b) m i ss slot at_i) in
          record {
            formed = new_local f ss n tidy b block found (m + i) held;
            has_type =
                type_is g (m + i) (Some slot.reg) (once (m + i))
                (in_back (m + i, Some slot.reg) (map (λ p. (p.local, Some p.reg)) f.params) (flat_map block_typings g.blocks)
                (in_blocks (m + i, Some slot.reg) g.blocks b (promoted_at f ss n b block) (found_new f ss n tidy b block found)
                (in_front (m + i, Some slot.reg) (map (λ p. (p.local, Some p.reg)) (promoted_at f ss n b block).phis) (filter_map line_typing (promoted_at f ss n b block).lines)
                (more_phis (m + i, Some slot.reg) (news f ss n b) block.phis typing_in))));
            there = new_there f ss n tidy b block found (m + i) 0 held;
          }

      by : Stands 0 ss x (placed 0 ss x) → Good b 0 (regs (placed 0 ss) x) (Local (m + rank_of (placed 0 ss x)))
      by st =
          subst (λ (k : ℕ). Good b 0 (regs (placed 0 ss) x) (Local (m + k))) (let e : rank_of (placed 0 ss x) ≡ 0 + st.index = st.rank in omega (arith, e))
          (subst (λ (r : Reg). Good b 0 r (Local (m + st.index))) (sym st.reg) (good st.index st.slot st.found))

  pub behind_both : (c : Current) (xs ys : List Line) → behind_lines (placed 0 ss) c (xs ++ ys) ≡ behind_lines (placed 0 ss) (behind_lines (placed 0 ss) c xs) ys
  behind_both c [] ys = refl
  behind_both c (x ∷ xs) ys = behind_both (behind_line (placed 0 ss) x c) xs ys

  module _ (b : ℕ) (block : Block) (found : slice_get f.blocks b ≡ Some block) where
    abbrev start : Current
    start = at_start (placed 0 ss) (first_at f ss n b)

    abbrev at_line_of : List Line → ℕ
    at_line_of front = moved f ss n tidy b block found front

    pub moved_step : (front : List Line) (l : Line) → moved f ss n tidy b block found (front ++ l ∷ []) ≡ (if goes (placed 0 ss) l.local l.instr then moved f ss n tidy b block found front else suc (moved f ss n tidy b block found front))
    moved_step front l =
        ap length (both (placed 0 ss) start front (l ∷ [])) ∙ length-append (without_slots (placed 0 ss) start front) (without_slots (placed 0 ss) (behind_lines (placed 0 ss) start front) (l ∷ [])) ∙ by (goes (placed 0 ss) l.local l.instr)
      where
        by : (u : Bool) → length (without_slots (placed 0 ss) start front) + length (if u then [] else line_with (placed 0 ss) (behind_lines (placed 0 ss) start front) l ∷ [])
            ≡ (if u then length (without_slots (placed 0 ss) start front) else suc (length (without_slots (placed 0 ss) start front)))
        by true = omega arith
        by false = omega arith

    -- the values behind a line are good where it stood
    behind_good : (front rest : List Line) (l : Line) (c : Current) → block.lines ≡ front ++ l ∷ rest → slice_get block.lines (length front) ≡ Some l → (u : Use) → LineFits f ss n sound right u l
        → AllGood b (moved f ss n tidy b block found front) c → AllGood b (moved f ss n tidy b block found front) (behind (λ x. reg_of (placed 0 ss x)) u c)
    behind_good front rest l c is at_l (Makes x) h good y s = by (nat_eq x y) refl
      where
        by : (t : Bool) → nat_eq x y ≡ t → Good b (moved f ss n tidy b block found front) (regs (placed 0 ss) y) (if t then Poison (reg_of (placed 0 ss x)) else c y)
        by true e =
            let same : reg_of (placed 0 ss x) ≡ regs (placed 0 ss) y = ap (λ (z : ℕ). reg_of (placed 0 ss z)) (eqb-true x y e) in
            record {
              formed = subst IsReg (sym same) (scalar_reg (made_slot f ss n sound right y s).shape (regs (placed 0 ss) y) (slot_stored f ss n sound right y s) (made_slot f ss n sound right y s).scalar_is);
              has_type = ap (λ (r : Reg). Some r) same;
              there = tt;
            }
        by false e = good y s
    behind_good front rest l c is at_l (Writes x o) h good y s = by (nat_eq x y) refl
      where
        formed : All (ArgumentFormed f) (reads l.instr ++ phi_reads l.instr)
        formed = (line_fact f ss n sound right b block found (ItemFormed f) (length front) l at_l sound.formed.items).operands

        types : All (HasType f) (reads l.instr ++ phi_reads l.instr)
        types = (line_fact f ss n sound right b block found (Keeps f TypeMismatch) (length front) l at_l (sound.rules TypeMismatch)).0

        there : All (λ a. IsThere f b (length front) a.operand) (reads l.instr)
        there = (line_fact f ss n sound right b block found (Keeps f NotAvailable) (length front) l at_l (sound.rules NotAvailable)).0

        instr_is : l.instr ≡ kind.Store (reg_of (placed 0 ss x)) o (Local x) h.3
        instr_is = h.4

        good_value : Good b (moved f ss n tidy b block found front) (reg_of (placed 0 ss x)) o
        good_value = record {
          formed = keep_formed o h.1 (All-head (ArgumentFormed f) (typed (reg_of (placed 0 ss x)) o) (typed Ptr (Local x) ∷ []) (subst (λ (i : Instr). All (ArgumentFormed f) (reads i ++ phi_reads i)) instr_is formed)).1;
          has_type = keep_type o (reg_of (placed 0 ss x)) h.1 (All-head (HasType f) (typed (reg_of (placed 0 ss x)) o) (typed Ptr (Local x) ∷ []) (subst (λ (i : Instr). All (HasType f) (reads i ++ phi_reads i)) instr_is types));
          there = keep_there b block found front (l ∷ rest) is o h.1 (All-head (λ a. IsThere f b (length front) a.operand) (typed (reg_of (placed 0 ss x)) o) (typed Ptr (Local x) ∷ []) (subst (λ (i : Instr). All (λ a. IsThere f b (length front) a.operand) (reads i)) instr_is there));
        }

        by : (t : Bool) → nat_eq x y ≡ t → Good b (moved f ss n tidy b block found front) (regs (placed 0 ss) y) (if t then o else c y)
        by true e = subst (λ (z : ℕ). Good b (moved f ss n tidy b block found front) (reg_of (placed 0 ss z)) o) (eqb-true x y e) good_value
        by false e = good y s
    behind_good front rest l c is at_l (Fetches x) h good y s = good y s
    behind_good front rest l c is at_l Other h good y s = good y s

    at_front : (front rest : List Line) (l : Line) → block.lines ≡ front ++ l ∷ rest → slice_get block.lines (length front) ≡ Some l
    at_front front rest l is = ap (λ (ls : List Line). slice_get ls (length front)) is ∙ behind_front front l rest

    -- and behind it
    pub next_good : (front rest : List Line) (l : Line) → block.lines ≡ front ++ l ∷ rest → AllGood b (moved f ss n tidy b block found front) (behind_lines (placed 0 ss) start front)
        → AllGood b (moved f ss n tidy b block found (front ++ l ∷ [])) (behind_lines (placed 0 ss) start (front ++ l ∷ []))
    next_good front rest l is good =
        subst (AllGood b (moved f ss n tidy b block found (front ++ l ∷ []))) (sym (behind_both start front (l ∷ [])))
        (subst (λ (j : ℕ). AllGood b j (behind_line (placed 0 ss) l (behind_lines (placed 0 ss) start front))) (sym (moved_step front l)) (by (goes (placed 0 ss) l.local l.instr)))
      where
        here : AllGood b (moved f ss n tidy b block found front) (behind_line (placed 0 ss) l (behind_lines (placed 0 ss) start front))
        here =
            behind_good front rest l (behind_lines (placed 0 ss) start front) is (at_front front rest l is) (use_of (placed 0 ss) l.local l.instr)
            (fits_at f ss n sound right b block found (length front) l (at_front front rest l is)) good

        by : (u : Bool) → AllGood b (if u then moved f ss n tidy b block found front else suc (moved f ss n tidy b block found front)) (behind_line (placed 0 ss) l (behind_lines (placed 0 ss) start front))
        by true = here
        by false = λ x s. good_later b (moved f ss n tidy b block found front) (regs (placed 0 ss) x) (behind_line (placed 0 ss) l (behind_lines (placed 0 ss) start front) x) (here x s)

    all_good : (front ls : List Line) → block.lines ≡ front ++ ls → AllGood b (moved f ss n tidy b block found front) (behind_lines (placed 0 ss) start front)
        → AllGood b (moved f ss n tidy b block found block.lines) (behind_lines (placed 0 ss) start block.lines)
    all_good front [] is good = subst (λ (ls : List Line). AllGood b (moved f ss n tidy b block found ls) (behind_lines (placed 0 ss) start ls)) (sym (is ∙ append-nil front)) good
    all_good front (l ∷ ls) is good = all_good (front ++ l ∷ []) ls (is ∙ sym (append_assoc front (l ∷ []) ls)) (next_good front ls l is good)

    pub first_good : AllGood b (moved f ss n tidy b block found []) (behind_lines (placed 0 ss) start [])
    first_good = start_good b block found (first_at f ss n b) refl

    -- at the block's end
    pub end_good : AllGood b (moved f ss n tidy b block found block.lines) (behind_lines (placed 0 ss) start block.lines)
    end_good = all_good [] block.lines refl first_good
