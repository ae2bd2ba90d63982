-- Promotion by a plan: the law's condition holds where the function is reached.
use Rattle.std.proofs.Common.{◌≡◌, ℕ, zero, suc, ◌+◌, ◌≤◌, nat_eq, Bool, true, false, not, ◌&&◌, List, [], ◌∷◌, ◌++◌, take, map, Option, Some, None, ◌⊎◌, inl, inr, refl, sym, ◌∙◌, ap, subst, arith, if◌then◌else◌}
use Rattle.std.specs.Prelude.{All, slice_get}
use Rattle.std.specs.List.{cons_option}
use Rattle.std.proofs.lemmas.Bool.{and_from as and_both, eq-eqb, eqb-true, not_from_false as not_false}
use Rattle.std.proofs.lemmas.List.Elements.{All-head, All-tail}
use Rattle.ir_tree.specs.Flow.{AvailableAt, Reachable, defined_before, edges, holds, locals, phi_locals, results}
use Rattle.ir_tree.specs.Forms.{Form}
use Rattle.ir_tree.specs.Formed.{AreStored, ArgumentFormed, IsShape, ItemFormed, InstrFormed, OperandFormed}
use Rattle.ir_tree.specs.Items.{Item, phi_item, line_item, items, reads, end_reads, phi_reads, taken_as, typed}
use Rattle.ir_tree.specs.Rules.{IsNoPhi, IsThere, Keeps, Sound, place}
use Rattle.ir_tree.specs.declared.block.Block.{Block}
use Rattle.ir_tree.specs.declared.block.Terminator.{Terminator}
use Rattle.ir_tree.specs.declared.block.Terminator.TheVariants.{Branch, Jump, Return, Switch, Unreachable}
use Rattle.ir_tree.specs.declared.function.Function.{Function}
use Rattle.ir_tree.specs.declared.instr.Incoming.{Incoming}
use Rattle.ir_tree.specs.declared.instr.Instr.{Instr}
use Rattle.ir_tree.specs.declared.instr.Instr.TheVariants as kind
use Rattle.ir_tree.specs.declared.instr.Line.{Line}
use Rattle.ir_tree.specs.declared.instr.Phi.{Phi}
use Rattle.ir_tree.specs.declared.operand.Argument.{Argument}
use Rattle.ir_tree.specs.declared.operand.Operand.{Operand}
use Rattle.ir_tree.specs.declared.operand.Operand.TheVariants.{Local, Number, Null, Poison, Symbol as Named}
use Rattle.ir_tree.specs.declared.operand.Reg.{Reg}
use Rattle.ir_tree.specs.declared.operand.Reg.TheVariants.{Int, Ptr}
use Rattle.ir_tree.specs.declared.rule.Rule.TheVariants.{NotAvailable, PhiPlace}
use Rattle.ir_meaning.specs.Facts.{is_local}
use Rattle.ir_meaning.specs.Needed.{AllKept, EdgesKept, EndReads, IsKept, PhisKept, UsesKept}
use Rattle.ir_meaning.specs.Promote.{Current, Fetches, LineRight, LinesRight, LocalFree, Makes, Other, Plan, Use, Writes, behind, behind_all, changed}
use Rattle.ir_tree.specs.Layout.{size as size_of}
use Rattle.ir_meaning.specs.Bytes.{reg_size}
use Rattle.ir_meaning.specs.Rules.{IsStorable}
use Rattle.ir_meaning.proofs.Everywhere.{all_front}
use Rattle.ir_edit.proofs.Tally.{tally, tally_both}
use Rattle.slot_promote.specs.Laws.{longest}
use Rattle.slot_promote.specs.Promoted.{end_at, first_at, new_phis}
use Rattle.promotable_slots.specs.Slots.{is_accessed_as, scalar}
use Rattle.promotable_slots.specs.Uses.{argument_uses, end_uses, entry_uses, instr_uses, operand_uses, phi_uses, uses}
use Rattle.slot_promote.specs.Values.{at_start, behind_line, behind_lines, fetches, is_there, makes, placed, reg_of, regs, use_of, writes}
use Rattle.slot_promote.specs.declared.slots.SlotRank.{SlotRank}
use Rattle.promotable_slots.specs.declared.slots.Slot.{Slot}
use Rattle.promotable_slots.specs.declared.uses.Use.{Use as Used}
use Rattle.slot_promote.proofs.Before.{not_before, tally_held}
use Rattle.slot_promote.proofs.Facts.{accessed, at_line, in_block, not_used, used_at_line, used_back, used_front, used_in_block, used_in_lines}
use Rattle.slot_promote.proofs.Reached.{reached}
use Rattle.slot_promote.proofs.Slotted.{AreRight, Gives, Made, Stands, at_most, given_here, local_of, one_line, scalar_size, scalar_storable, stands}
use Rattle.slot_promote.proofs.Tests.{clash}
use Rattle.ir_edit.proofs.Holding.{holds_back, holds_either, holds_front}

abbrev is_alloca : Instr → Bool
is_alloca (kind.Alloca shape align) = true
is_alloca _ = false

-- ---- results of lines

-- what stands before a line and the line itself give no local twice
before_and_at : (y k : ℕ) (ls : List Line) (l : Line) → slice_get ls k ≡ Some l → l.local ≡ Some y → tally y (results (take k ls)) + 1 ≤ tally y (results ls)
before_and_at y k [] l found is = absurd cc
before_and_at y zero (x ∷ ls) l found is =
    let same : x ≡ l = cc found in
    let named : x.local ≡ Some y = ap (λ (z : Line). z.local) same ∙ is in
    subst (λ (o : Option ℕ). tally y [] + 1 ≤ tally y (cons_option o (results ls))) (sym named) (by (nat_eq y y) (eq-eqb y y refl))
  where
    by : (t : Bool) → t ≡ true → 0 + 1 ≤ (if t then 1 else 0) + tally y (results ls)
    by true e = omega arith
    by false e = absurd cc
before_and_at y (suc k) (x ∷ ls) l found is = by x.local (before_and_at y k ls l found is)
  where
    by : (o : Option ℕ) → tally y (results (take k ls)) + 1 ≤ tally y (results ls) → tally y (cons_option o (results (take k ls))) + 1 ≤ tally y (cons_option o (results ls))
    by None h = h
    by (Some z) h = omega (arith, h)

-- what is defined before a line is defined before the next
pub results_grow : (y k : ℕ) (ls : List Line) → holds (results (take k ls)) y ≡ true → holds (results (take (suc k) ls)) y ≡ true
results_grow y zero ls h = absurd cc
results_grow y (suc k) [] h = absurd cc
results_grow y (suc k) (x ∷ ls) h = by x.local h (results_grow y k ls)
  where
    by : (o : Option ℕ) → holds (cons_option o (results (take k ls))) y ≡ true → (holds (results (take k ls)) y ≡ true → holds (results (take (suc k) ls)) y ≡ true) → holds (cons_option o (results (take (suc k) ls))) y ≡ true
    by None h more = more h
    by (Some z) h more = at (holds_either y (z ∷ []) (results (take k ls)) h)
      where
        at : (holds (z ∷ []) y ≡ true) ⊎ (holds (results (take k ls)) y ≡ true) → holds (z ∷ results (take (suc k) ls)) y ≡ true
        at (inl e) = holds_front y (z ∷ []) (results (take (suc k) ls)) e
        at (inr e) = holds_back y (z ∷ []) (results (take (suc k) ls)) (more e)

-- ---- the plan

module _ (f : Function) (ss : List Slot) (n : ℕ) where
  abbrev pub plan_values : Bool → ℕ → Current
  plan_values r p = if r then (end_at f ss n p).values else at_start (placed 0 ss) (first_at f ss n p)

  abbrev pub plan : Plan
  plan = record {
    slot = λ x. is_there (placed 0 ss x);
    reg = λ x. reg_of (placed 0 ss x);
    uses = λ l. use_of (placed 0 ss) l.local l.instr;
    keeps = λ x. not (is_there (placed 0 ss x)) && holds (locals f) x;
    news = λ m. new_phis (end_at f ss n) (edges f (place f.blocks m)) (first_at f ss n (place f.blocks m)) ss;
    starts = λ m. at_start (placed 0 ss) (first_at f ss n (place f.blocks m));
    ends = λ m. plan_values (reached f (place f.blocks m)) (place f.blocks m);
    longest = longest f.blocks;
  }

  pub behind_same : (c : Current) (ls : List Line) → behind_all plan c ls ≡ behind_lines (placed 0 ss) c ls
  behind_same c [] = refl
  behind_same c (l ∷ ls) = behind_same (behind_line (placed 0 ss) l c) ls

module _ (f : Function) (ss : List Slot) (n : ℕ) (sound : Sound f) (right : AreRight f ss) where
  abbrev t : Plan
  t = plan f ss n

  abbrev at : ℕ → Option SlotRank
  at = placed 0 ss

  abbrev IsSlot : ℕ → Type 0
  IsSlot x = is_there (placed 0 ss x) ≡ true

  -- ---- slots

  pub slot_accessed : (x : ℕ) → IsSlot x → is_accessed_as (regs at x) x (uses f.blocks) ≡ true
  slot_accessed x h =
      let s : Stands 0 ss x (placed 0 ss x) = stands 0 ss x h in
      let a : is_accessed_as s.slot.reg s.slot.local (uses f.blocks) ≡ true = (right s.index s.slot s.found).accessed in
      subst (λ (r : Reg). is_accessed_as r x (uses f.blocks) ≡ true) (sym s.reg) (subst (λ (y : ℕ). is_accessed_as s.slot.reg y (uses f.blocks) ≡ true) s.local a)

  pub made_slot : (x : ℕ) → IsSlot x → Made f (record { local = x; reg = regs at x })
  made_slot x h =
      let s : Stands 0 ss x (placed 0 ss x) = stands 0 ss x h in
      subst (λ (y : ℕ). Made f (record { local = y; reg = regs at x })) s.local (subst (λ (r : Reg). Made f (record { local = s.slot.local; reg = r })) (sym s.reg) (right s.index s.slot s.found).made)

  pub made_gives : (x : ℕ) (h : IsSlot x) → Gives f x (made_slot x h).block_place (made_slot x h).line_place (made_slot x h).block (made_slot x h).line
  made_gives x h = record { in_function = (made_slot x h).in_function; in_block = (made_slot x h).in_block; local = (made_slot x h).local }

  pub slot_stored : (x : ℕ) (h : IsSlot x) → AreStored (made_slot x h).shape
  slot_stored x h =
      let m : Made f (record { local = x; reg = regs at x }) = made_slot x h in
      let item : ItemFormed f (line_item m.block_place m.line_place m.line) =
      at_line (ItemFormed f) m.block_place m.line_place m.block m.line m.in_block (in_block (ItemFormed f) f m.block_place m.block m.in_function sound.formed.items) in
      let shape : IsShape m.shape = (subst (λ (i : Instr). InstrFormed i) m.instr item.kind.0).0 in
      shape.stored

  pub slot_storable : (x : ℕ) → IsSlot x → IsStorable (regs at x)
  slot_storable x h = scalar_storable (made_slot x h).shape (regs at x) (slot_stored x h) (made_slot x h).scalar_is

  -- the one line that gives a slot's local a value is its `alloca`
  pub made_here : (x b k : ℕ) (block : Block) (l : Line) → IsSlot x → Gives f x b k block l → (shape : Form) × (align : ℕ) × (l.instr ≡ kind.Alloca shape align) × (scalar shape ≡ Some (regs at x))
  made_here x b k block l h g =
      let m : Made f (record { local = x; reg = regs at x }) = made_slot x h in
      let same : m.line ≡ l = one_line f sound.formed x m.block_place b m.line_place k m.block block m.line l (made_gives x h) g in
      (m.shape, m.align, ap (λ (z : Line). z.instr) (sym same) ∙ m.instr, m.scalar_is)

  -- ---- what is kept

  pub keeps_local : (z : ℕ) → is_there (placed 0 ss z) ≡ false → holds (locals f) z ≡ true → t.keeps z ≡ true
  keeps_local z out there = and_both (not (is_there (placed 0 ss z))) (holds (locals f) z) (not_false (is_there (placed 0 ss z)) out) there

  -- each use of a slot among these is an access of its type
  abbrev pub AllFit : List Used → Type 0
  AllFit us = (x : ℕ) → IsSlot x → is_accessed_as (regs at x) x us ≡ true

  fit_front : (us vs : List Used) → AllFit (us ++ vs) → AllFit us
  fit_front us vs h x s = used_front (regs at x) x us vs (h x s)

  fit_back : (us vs : List Used) → AllFit (us ++ vs) → AllFit vs
  fit_back us vs h x s = used_back (regs at x) x us vs (h x s)

  pub kept_operand : (o : Operand) → AllFit (operand_uses None o) → OperandFormed f o → IsKept t.keeps o
  kept_operand (Local z) h formed = by (is_there (placed 0 ss z)) refl
    where
      by : (b : Bool) → is_there (placed 0 ss z) ≡ b → t.keeps z ≡ true
      by true s = absurd (not_used (regs at z) z z (h z s) refl)
      by false s = keeps_local z s formed
  kept_operand (Number width bits) h formed = tt
  kept_operand Null h formed = tt
  kept_operand (Poison reg) h formed = tt
  kept_operand (Named symbol offset) h formed = tt

  pub kept_arguments : (as' : List Argument) → AllFit (argument_uses as') → All (ArgumentFormed f) as' → AllKept t.keeps as'
  kept_arguments [] h formed = tt
  kept_arguments (a ∷ more) h formed = (
    kept_operand a.operand (fit_front (operand_uses None a.operand) (argument_uses more) h) (All-head (ArgumentFormed f) a more formed).1,
    kept_arguments more (fit_back (operand_uses None a.operand) (argument_uses more) h) (All-tail (ArgumentFormed f) a more formed),
  )

  pub kept_entries : (reg : Reg) (es : List Incoming) → AllFit (entry_uses es) → All (ArgumentFormed f) (taken_as reg es) → EdgesKept t.keeps es
  kept_entries reg [] h formed = tt
  kept_entries reg (e ∷ es) h formed = (
    kept_operand e.value (fit_front (operand_uses None e.value) (entry_uses es) h) (All-head (ArgumentFormed f) (typed reg e.value) (taken_as reg es) formed).1,
    kept_entries reg es (fit_back (operand_uses None e.value) (entry_uses es) h) (All-tail (ArgumentFormed f) (typed reg e.value) (taken_as reg es) formed),
  )

  pub kept_phis : (b : ℕ) (ps : List Phi) → AllFit (phi_uses ps) → All (ItemFormed f) (map (phi_item b) ps) → PhisKept t.keeps ps
  kept_phis b [] h formed = tt
  kept_phis b (p ∷ ps) h formed = (
    λ k. kept_entries p.reg p.incoming (fit_front (entry_uses p.incoming) (phi_uses ps) h) (All-head (ItemFormed f) (phi_item b p) (map (phi_item b) ps) formed).operands,
    kept_phis b ps (fit_back (entry_uses p.incoming) (phi_uses ps) h) (All-tail (ItemFormed f) (phi_item b p) (map (phi_item b) ps) formed),
  )

  pub kept_end : (e : Terminator) → AllFit (end_uses e) → All (ArgumentFormed f) (end_reads e) → EndReads t.keeps e
  kept_end (Return None) h formed = tt
  kept_end (Return (Some a)) h formed = kept_operand a.operand h (All-head (ArgumentFormed f) a [] formed).1
  kept_end (Jump target) h formed = tt
  kept_end (Branch condition if_true if_false) h formed = kept_operand condition h (All-head (ArgumentFormed f) (typed (Int 1) condition) [] formed).1
  kept_end (Switch width value default cases) h formed = kept_operand value h (All-head (ArgumentFormed f) (typed (Int width) value) [] formed).1
  kept_end Unreachable h formed = tt

  -- ---- what a line does with slots

  -- a line of the function, by what it does with slots
  abbrev pub LineFits : Use → Line → Type 0
  LineFits (Makes x) line = IsSlot x × (line.local ≡ Some x) × IsStorable (t.reg x) × (shape : Form) × (align : ℕ) × (line.instr ≡ kind.Alloca shape align) × (size_of shape ≡ reg_size (t.reg x))
  LineFits (Writes x o) line = IsSlot x × IsKept t.keeps o × IsStorable (t.reg x) × (align : ℕ) × (line.instr ≡ kind.Store (t.reg x) o (Local x) align)
  LineFits (Fetches x) line = IsSlot x × ((y : ℕ) → line.local ≡ Some y → is_there (placed 0 ss y) ≡ false) × (align : ℕ) × (line.instr ≡ kind.Load (t.reg x) (Local x) align)
  LineFits Other line = ((y : ℕ) → line.local ≡ Some y → is_there (placed 0 ss y) ≡ false) × UsesKept t.keeps line.instr

  module _ (b : ℕ) (block : Block) (found : slice_get f.blocks b ≡ Some block) where
    abbrev At : ℕ → Line → Type 0
    At k l = slice_get block.lines k ≡ Some l

    -- a line that is no `alloca` gives no slot its address
    no_slot : (k : ℕ) (l : Line) → At k l → ((shape : Form) (align : ℕ) → l.instr ≡ kind.Alloca shape align → ⊥) → (y : ℕ) → l.local ≡ Some y → is_there (placed 0 ss y) ≡ false
    no_slot k l at_k other y is = by (is_there (placed 0 ss y)) refl
      where
        by : (u : Bool) → is_there (placed 0 ss y) ≡ u → u ≡ false
        by true s =
            let m : (shape : Form) × (align : ℕ) × (l.instr ≡ kind.Alloca shape align) × (scalar shape ≡ Some (regs at y)) =
            made_here y b k block l s (record { in_function = found; in_block = at_k; local = is }) in
            absurd (other m.0 m.1 m.2)
        by false s = refl

    abbrev Formeds : List Argument → Type 0
    Formeds as' = All (ArgumentFormed f) as'

    first_formed : (a : Argument) (more : List Argument) → Formeds (a ∷ more) → OperandFormed f a.operand
    first_formed a more h = (All-head (ArgumentFormed f) a more h).1

    rest_formed : (a : Argument) (more : List Argument) → Formeds (a ∷ more) → Formeds more
    rest_formed a more h = All-tail (ArgumentFormed f) a more h

    two_kept : (o u : Operand) (a c : Argument) (more : List Argument) → a.operand ≡ o → c.operand ≡ u → AllFit (operand_uses None o ++ operand_uses None u) → Formeds (a ∷ c ∷ more) → IsKept t.keeps o × IsKept t.keeps u
    two_kept o u a c more is also fit formed = (
      kept_operand o (fit_front (operand_uses None o) (operand_uses None u) fit) (subst (OperandFormed f) is (first_formed a (c ∷ more) formed)),
      kept_operand u (fit_back (operand_uses None o) (operand_uses None u) fit) (subst (OperandFormed f) also (first_formed c more (rest_formed a (c ∷ more) formed))),
    )

    -- ---- a line is right

    module _ (k : ℕ) (l : Line) (at_k : At k l) where
      not_alloca : (i : Instr) → l.instr ≡ i → is_alloca i ≡ false → (shape : Form) (align : ℕ) → l.instr ≡ kind.Alloca shape align → ⊥
      not_alloca i is plain_kind shape align e = let both : true ≡ false = sym (ap is_alloca e) ∙ ap is_alloca is ∙ plain_kind in cc both

      plain_line : (i : Instr) → l.instr ≡ i → is_alloca i ≡ false → UsesKept t.keeps i → LineFits Other l
      plain_line i is plain_kind kept = (no_slot k l at_k (not_alloca i is plain_kind), subst (UsesKept t.keeps) (sym is) kept)

      alloca_line : (shape : Form) (align : ℕ) → l.instr ≡ kind.Alloca shape align → (o : Option ℕ) → l.local ≡ o → LineFits (makes (placed 0 ss) o) l
      alloca_line shape align is None named =
          (λ y e. let none : None ≡ Some y = sym named ∙ e in absurd (cc none), subst (UsesKept t.keeps) (sym is) tt)
      alloca_line shape align is (Some x) named = by (is_there (placed 0 ss x)) refl
        where
          size : (shape' : Form) (align' : ℕ) → l.instr ≡ kind.Alloca shape' align' → scalar shape' ≡ Some (regs at x) → size_of shape ≡ reg_size (regs at x)
          size shape' align' e scalar_is =
              let both : kind.Alloca shape' align' ≡ kind.Alloca shape align = sym e ∙ is in
              let same : shape' ≡ shape = cc both in
              scalar_size shape (regs at x) (subst (λ (s : Form). scalar s ≡ Some (regs at x)) same scalar_is)

          by : (u : Bool) → is_there (placed 0 ss x) ≡ u → LineFits (if u then Makes x else Other) l
          by true s =
              let m : (shape : Form) × (align : ℕ) × (l.instr ≡ kind.Alloca shape align) × (scalar shape ≡ Some (regs at x)) =
              made_here x b k block l s (record { in_function = found; in_block = at_k; local = named }) in
              (s, named, slot_storable x s, shape, align, is, size m.0 m.1 m.2 m.3)
          by false s = (
            λ y e. let both : Some x ≡ Some y = sym named ∙ e in subst (λ (z : ℕ). is_there (placed 0 ss z) ≡ false) (cc both) s,
            subst (UsesKept t.keeps) (sym is) tt,
          )

      load_line : (reg : Reg) (address : Operand) (align : ℕ) → l.instr ≡ kind.Load reg address align → AllFit (operand_uses (Some reg) address) → OperandFormed f address → LineFits (fetches (placed 0 ss) address) l
      load_line reg (Local x) align is fit formed = by (is_there (placed 0 ss x)) refl
        where
          by : (u : Bool) → is_there (placed 0 ss x) ≡ u → LineFits (if u then Fetches x else Other) l
          by true s = (
            s,
            no_slot k l at_k (not_alloca (kind.Load reg (Local x) align) is refl),
            align,
            is ∙ ap (λ (r : Reg). kind.Load r (Local x) align) (accessed (regs at x) reg x (fit x s)),
          )
          by false s = plain_line (kind.Load reg (Local x) align) is refl (keeps_local x s formed)
      load_line reg (Number width bits) align is fit formed = plain_line (kind.Load reg (Number width bits) align) is refl tt
      load_line reg Null align is fit formed = plain_line (kind.Load reg Null align) is refl tt
      load_line reg (Poison r) align is fit formed = plain_line (kind.Load reg (Poison r) align) is refl tt
      load_line reg (Named symbol offset) align is fit formed = plain_line (kind.Load reg (Named symbol offset) align) is refl tt

      store_line : (reg : Reg) (value address : Operand) (align : ℕ) → l.instr ≡ kind.Store reg value address align → IsKept t.keeps value → AllFit (operand_uses (Some reg) address) → OperandFormed f address → LineFits (writes (placed 0 ss) value address) l
      store_line reg value (Local x) align is kept fit formed = by (is_there (placed 0 ss x)) refl
        where
          by : (u : Bool) → is_there (placed 0 ss x) ≡ u → LineFits (if u then Writes x value else Other) l
          by true s = (s, kept, slot_storable x s, align, is ∙ ap (λ (r : Reg). kind.Store r value (Local x) align) (accessed (regs at x) reg x (fit x s)))
          by false s = plain_line (kind.Store reg value (Local x) align) is refl (kept, keeps_local x s formed)
      store_line reg value (Number width bits) align is kept fit formed = plain_line (kind.Store reg value (Number width bits) align) is refl (kept, tt)
      store_line reg value Null align is kept fit formed = plain_line (kind.Store reg value Null align) is refl (kept, tt)
      store_line reg value (Poison r) align is kept fit formed = plain_line (kind.Store reg value (Poison r) align) is refl (kept, tt)
      store_line reg value (Named symbol offset) align is kept fit formed = plain_line (kind.Store reg value (Named symbol offset) align) is refl (kept, tt)

      line_fit : (i : Instr) → l.instr ≡ i → AllFit (instr_uses i) → Formeds (reads i ++ phi_reads i) → IsNoPhi i → LineFits (use_of (placed 0 ss) l.local i) l
      line_fit (kind.Binary op flags width left right) is fit formed plain_kind =
          plain_line (kind.Binary op flags width left right) is refl (two_kept left right (typed (Int width) left) (typed (Int width) right) [] refl refl fit formed)
      line_fit (kind.Icmp predicate reg left right) is fit formed plain_kind =
          plain_line (kind.Icmp predicate reg left right) is refl (two_kept left right (typed reg left) (typed reg right) [] refl refl fit formed)
      line_fit (kind.Cast op from value to) is fit formed plain_kind = plain_line (kind.Cast op from value to) is refl (kept_operand value fit (first_formed (typed from value) [] formed))
      line_fit (kind.Select condition if_true if_false) is fit formed plain_kind =
          let rest : AllFit (operand_uses None if_true.operand ++ operand_uses None if_false.operand) = fit_back (operand_uses None condition) (operand_uses None if_true.operand ++ operand_uses None if_false.operand) fit in
          let arms : IsKept t.keeps if_true.operand × IsKept t.keeps if_false.operand =
          two_kept if_true.operand if_false.operand if_true if_false [] refl refl rest (rest_formed (typed (Int 1) condition) (if_true ∷ if_false ∷ []) formed) in
          plain_line (kind.Select condition if_true if_false) is refl (
            kept_operand condition (fit_front (operand_uses None condition) (operand_uses None if_true.operand ++ operand_uses None if_false.operand) fit) (first_formed (typed (Int 1) condition) (if_true ∷ if_false ∷ []) formed),
            arms.0,
            arms.1,
          )
      line_fit (kind.Freeze reg value) is fit formed plain_kind = plain_line (kind.Freeze reg value) is refl (kept_operand value fit (first_formed (typed reg value) [] formed))
      line_fit (kind.Alloca shape align) is fit formed plain_kind = alloca_line shape align is l.local refl
      line_fit (kind.Load reg address align) is fit formed plain_kind = load_line reg address align is fit (first_formed (typed Ptr address) [] formed)
      line_fit (kind.Store reg value address align) is fit formed plain_kind =
          store_line reg value address align is
          (kept_operand value (fit_front (operand_uses None value) (operand_uses (Some reg) address) fit) (first_formed (typed reg value) (typed Ptr address ∷ []) formed))
          (fit_back (operand_uses None value) (operand_uses (Some reg) address) fit)
          (first_formed (typed Ptr address) [] (rest_formed (typed reg value) (typed Ptr address ∷ []) formed))
      line_fit (kind.Address inbounds shape base indices) is fit formed plain_kind =
          plain_line (kind.Address inbounds shape base indices) is refl (
            kept_operand base (fit_front (operand_uses None base) (argument_uses indices) fit) (first_formed (typed Ptr base) (indices ++ []) formed),
            kept_arguments indices (fit_back (operand_uses None base) (argument_uses indices) fit) (all_front (ArgumentFormed f) indices [] (rest_formed (typed Ptr base) (indices ++ []) formed)),
          )
      line_fit (kind.Call result callee arguments) is fit formed plain_kind =
          plain_line (kind.Call result callee arguments) is refl (
            kept_operand callee (fit_front (operand_uses None callee) (argument_uses arguments) fit) (first_formed (typed Ptr callee) (arguments ++ []) formed),
            kept_arguments arguments (fit_back (operand_uses None callee) (argument_uses arguments) fit) (all_front (ArgumentFormed f) arguments [] (rest_formed (typed Ptr callee) (arguments ++ []) formed)),
          )
      line_fit (kind.Phi reg incoming) is fit formed plain_kind = absurd plain_kind

    pub line_fact : (P : Item → Type 0) (k : ℕ) (l : Line) → At k l → All P (items f) → P (line_item b k l)
    line_fact P k l at_k h = at_line P b k block l at_k (in_block P f b block found h)

    pub line_uses_fit : (k : ℕ) (l : Line) → At k l → AllFit (instr_uses l.instr)
    line_uses_fit k l at_k x s =
        used_at_line (regs at x) x k block.lines l at_k (used_in_lines (regs at x) x block (used_in_block (regs at x) x b f.blocks block found (slot_accessed x s)))

    pub fits_at : (k : ℕ) (l : Line) → At k l → LineFits (use_of (placed 0 ss) l.local l.instr) l
    fits_at k l at_k =
        line_fit k l at_k l.instr refl (line_uses_fit k l at_k) (line_fact (ItemFormed f) k l at_k sound.formed.items).operands (line_fact (Keeps f PhiPlace) k l at_k (sound.rules PhiPlace))

  -- ---- values along a block

  module _ (b : ℕ) (block : Block) (found : slice_get f.blocks b ≡ Some block) (path : Reachable f b) where
    -- the value is a new phi's, or is available before the line k
    abbrev pub ValueOk : ℕ → Operand → Type 0
    ValueOk k (Local z) = (holds (locals f) z ≡ false) ⊎ AvailableAt f b k z
    ValueOk k _ = Unit {0}

    abbrev pub Settled : ℕ → Current → Type 0
    Settled k c = (x : ℕ) → IsSlot x → ValueOk k (c x)

    later : (k z : ℕ) → AvailableAt f b k z → AvailableAt f b (suc k) z
    later k z (inl h) = inl h
    later k z (inr h) = inr (by (slice_get f.blocks b) h)
      where
        by : (o : Option Block) → defined_before o k z ≡ true → defined_before o (suc k) z ≡ true
        by None g = g
        by (Some x) g = at_either (holds_either z (phi_locals x) (results (take k x.lines)) g)
          where
            at_either : (holds (phi_locals x) z ≡ true) ⊎ (holds (results (take k x.lines)) z ≡ true) → holds (phi_locals x ++ results (take (suc k) x.lines)) z ≡ true
            at_either (inl e) = holds_front z (phi_locals x) (results (take (suc k) x.lines)) e
            at_either (inr e) = holds_back z (phi_locals x) (results (take (suc k) x.lines)) (results_grow z k x.lines e)

    value_later : (k : ℕ) (o : Operand) → ValueOk k o → ValueOk (suc k) o
    value_later k (Local z) (inl h) = inl h
    value_later k (Local z) (inr h) = inr (later k z h)
    value_later k (Number width bits) h = tt
    value_later k Null h = tt
    value_later k (Poison reg) h = tt
    value_later k (Named symbol offset) h = tt

    there_ok : (k : ℕ) (o : Operand) → IsThere f b k o → ValueOk k o
    there_ok k (Local z) h = inr h
    there_ok k (Number width bits) h = tt
    there_ok k Null h = tt
    there_ok k (Poison reg) h = tt
    there_ok k (Named symbol offset) h = tt

    -- what a line defines isn't available before it
    not_there : (k y : ℕ) (l : Line) → Gives f y b k block l → AvailableAt f b k y → ⊥
    not_there k y l g (inl h) = not_before f sound.formed b y path (given_here f sound.formed y b k block l g) h
    not_there k y l g (inr h) =
        let before : holds (phi_locals block ++ results (take k block.lines)) y ≡ true = subst (λ (o : Option Block). defined_before o k y ≡ true) found h in
        let some : 1 ≤ tally y (phi_locals block ++ results (take k block.lines)) = tally_held y (phi_locals block ++ results (take k block.lines)) before in
        let both : tally y (phi_locals block ++ results (take k block.lines)) ≡ tally y (phi_locals block) + tally y (results (take k block.lines)) = tally_both y (phi_locals block) (results (take k block.lines)) in
        let one : tally y (results (take k block.lines)) + 1 ≤ tally y (results block.lines) = before_and_at y k block.lines l g.in_block g.local in
        let most : tally y (phi_locals block) + tally y (results block.lines) ≤ 1 = at_most f sound.formed y b block found in
        omega (arith, some, both, one, most)

    local_is : (y k : ℕ) (l : Line) → Gives f y b k block l → holds (locals f) y ≡ true
    local_is y k l g = local_of f sound.formed y b k block l g

    value_beside : (k y : ℕ) (l : Line) (o : Operand) → Gives f y b k block l → ValueOk k o → is_local y o ≡ false
    value_beside k y l (Local z) g h = by (nat_eq z y) refl
      where
        never : z ≡ y → (holds (locals f) z ≡ false) ⊎ AvailableAt f b k z → ⊥
        never same (inl out) = clash (holds (locals f) y) (local_is y k l g) (subst (λ (i : ℕ). holds (locals f) i ≡ false) same out)
        never same (inr there) = not_there k y l g (subst (λ (i : ℕ). AvailableAt f b k i) same there)

        by : (u : Bool) → nat_eq z y ≡ u → u ≡ false
        by true is = absurd (never (eqb-true z y is) h)
        by false is = refl
    value_beside k y l (Number width bits) g h = refl
    value_beside k y l Null g h = refl
    value_beside k y l (Poison reg) g h = refl
    value_beside k y l (Named symbol offset) g h = refl

    -- a local that is no slot, given by a line
    free_local : (k : ℕ) (l : Line) (c : Current) → slice_get block.lines k ≡ Some l → Settled k c → (o : Option ℕ) → l.local ≡ o → ((y : ℕ) → l.local ≡ Some y → is_there (placed 0 ss y) ≡ false) → LocalFree t c o
    free_local k l c at_k ok None is out = tt
    free_local k l c at_k ok (Some y) is out =
        let g : Gives f y b k block l = record { in_function = found; in_block = at_k; local = is } in
        (out y is, λ x s. value_beside k y l (c x) g (ok x s))

    with_free : (k : ℕ) (l : Line) (c : Current) → slice_get block.lines k ≡ Some l → Settled k c → (u : Use) → LineFits u l → LineRight t c u l
    with_free k l c at_k ok (Makes x) h = h
    with_free k l c at_k ok (Writes x o) h = h
    with_free k l c at_k ok (Fetches x) h = (h.0, free_local k l c at_k ok l.local refl h.1, h.2, h.3)
    with_free k l c at_k ok Other h = (free_local k l c at_k ok l.local refl h.0, h.1)

    module _ (k : ℕ) (l : Line) (c : Current) (at_k : slice_get block.lines k ≡ Some l) (ok : Settled k c) where
      -- ---- the values behind it

      settled_later : (x : ℕ) → IsSlot x → ValueOk (suc k) (c x)
      settled_later x s = value_later k (c x) (ok x s)

      settled_changed : (x : ℕ) (o : Operand) → ValueOk (suc k) o → Settled (suc k) (changed x o c)
      settled_changed x o h y s = by (nat_eq x y)
        where
          by : (u : Bool) → ValueOk (suc k) (if u then o else c y)
          by true = h
          by false = settled_later y s

      settled_alloca : (o : Option ℕ) → Settled (suc k) (behind (λ x. reg_of (placed 0 ss x)) (makes (placed 0 ss) o) c)
      settled_alloca None = settled_later
      settled_alloca (Some x) = by (is_there (placed 0 ss x))
        where
          by : (u : Bool) → Settled (suc k) (behind (λ x. reg_of (placed 0 ss x)) (if u then Makes x else Other) c)
          by true = settled_changed x (Poison (regs at x)) tt
          by false = settled_later

      settled_store : (value address : Operand) → ValueOk (suc k) value → Settled (suc k) (behind (λ x. reg_of (placed 0 ss x)) (writes (placed 0 ss) value address) c)
      settled_store value (Local x) h = by (is_there (placed 0 ss x))
        where
          by : (u : Bool) → Settled (suc k) (behind (λ x. reg_of (placed 0 ss x)) (if u then Writes x value else Other) c)
          by true = settled_changed x value h
          by false = settled_later
      settled_store value (Number width bits) h = settled_later
      settled_store value Null h = settled_later
      settled_store value (Poison r) h = settled_later
      settled_store value (Named symbol offset) h = settled_later

      settled_load : (address : Operand) → Settled (suc k) (behind (λ x. reg_of (placed 0 ss x)) (fetches (placed 0 ss) address) c)
      settled_load (Local x) = by (is_there (placed 0 ss x))
        where
          by : (u : Bool) → Settled (suc k) (behind (λ x. reg_of (placed 0 ss x)) (if u then Fetches x else Other) c)
          by true = settled_later
          by false = settled_later
      settled_load (Number width bits) = settled_later
      settled_load Null = settled_later
      settled_load (Poison r) = settled_later
      settled_load (Named symbol offset) = settled_later

      settled_behind : (i : Instr) → All (λ a. IsThere f b k a.operand) (reads i) → Settled (suc k) (behind (λ x. reg_of (placed 0 ss x)) (use_of (placed 0 ss) l.local i) c)
      settled_behind (kind.Binary op flags width left right) there = settled_later
      settled_behind (kind.Icmp predicate reg left right) there = settled_later
      settled_behind (kind.Cast op from value to) there = settled_later
      settled_behind (kind.Select condition if_true if_false) there = settled_later
      settled_behind (kind.Freeze reg value) there = settled_later
      settled_behind (kind.Alloca shape align) there = settled_alloca l.local
      settled_behind (kind.Load reg address align) there = settled_load address
      settled_behind (kind.Store reg value address align) there =
          settled_store value address (value_later k value (there_ok k value (All-head (λ a. IsThere f b k a.operand) (typed reg value) (typed Ptr address ∷ []) there)))
      settled_behind (kind.Address inbounds shape base indices) there = settled_later
      settled_behind (kind.Call result callee arguments) there = settled_later
      settled_behind (kind.Phi reg incoming) there = settled_later

    -- ---- all lines

    pub lines_right : (c : Current) (k : ℕ) (ls : List Line) → ((j : ℕ) → slice_get block.lines (k + j) ≡ slice_get ls j) → Settled k c → LinesRight t c ls
    lines_right c k [] same ok = tt
    lines_right c k (l ∷ ls) same ok =
        let at_k : slice_get block.lines k ≡ Some l = ap (slice_get block.lines) (omega arith) ∙ same 0 in
        let there : All (λ a. IsThere f b k a.operand) (reads l.instr) = (line_fact b block found (Keeps f NotAvailable) k l at_k (sound.rules NotAvailable)).0 in (
          with_free k l c at_k ok (use_of (placed 0 ss) l.local l.instr) (fits_at b block found k l at_k),
          lines_right (behind_line (placed 0 ss) l c) (suc k) ls (λ j. ap (slice_get block.lines) (omega arith) ∙ same (suc j)) (settled_behind k l c at_k ok l.instr there),
        )
