-- Each pass uses no other symbols than the function does.
use Rattle.std.proofs.Common.{◌≡◌, ◌||◌, ℕ, zero, suc, nat_eq, nat_le, ◌==◌, Bool, true, false, List, [], ◌∷◌, ◌++◌, Option, Some, None, map, refl, sym, subst, inl, inr, if◌then◌else◌}
use Rattle.std.specs.Prelude.{All, slice_get}
use Rattle.ir_tree.specs.Flow.{edges}
use Rattle.ir_tree.specs.Items.{items, phi_reads}
use Rattle.ir_tree.specs.Rules.{Sound}
use Rattle.ir_tree.specs.Wholes.{IsKnown, ItemKnown}
use Rattle.ir_tree.specs.declared.block.Block.{Block}
use Rattle.ir_tree.specs.declared.block.Terminator.{Terminator}
use Rattle.ir_tree.specs.declared.block.Terminator.TheVariants.{Branch, Jump, Return, Switch, Unreachable}
use Rattle.ir_tree.specs.declared.function.Function.{Function}
use Rattle.ir_tree.specs.declared.instr.Incoming.{Incoming}
use Rattle.ir_tree.specs.declared.instr.Instr.{Instr}
use Rattle.ir_tree.specs.declared.instr.Instr.TheVariants as kind
use Rattle.ir_tree.specs.declared.instr.Line.{Line}
use Rattle.ir_tree.specs.declared.instr.Phi.{Phi}
use Rattle.ir_tree.specs.declared.operand.Argument.{Argument}
use Rattle.ir_tree.specs.declared.operand.Operand.{Operand}
use Rattle.ir_tree.specs.declared.operand.Operand.TheVariants as operand
use Rattle.ir_tree.specs.declared.operand.Reg.{Reg}
use Rattle.ir_tree.specs.declared.operand.Symbol.{Symbol}
use Rattle.ir_meaning.specs.Act.{find_block}
use Rattle.ir_meaning.specs.Facts.{Facts, Has, behind_lines, behind_local, blocks_replaced, edges_replaced, end_replaced, is_local, lines_replaced, phis_replaced, replaced, replaced_local, with_fact, without}
use Rattle.ir_meaning.specs.Needed.{is_needed, needed_blocks, needed_lines, needed_phis}
use Rattle.ir_meaning.specs.Promote.{Current, Fetches, Makes, Other, Use, Writes, behind, changed, chosen_value}
use Rattle.ir_tree.specs.Edited.{argument_edited, block_edited, end_edited, incoming_edited, instr_edited, line_edited, operand_renamed, phi_edited, with_operands}
use Rattle.ir_edit.specs.Numbered.{in_text_order, later_or, new_number, numbers_of}
use Rattle.ir_edit.specs.Substituted.{replacement}
use Rattle.branch_simplify.specs.Decided.{decided, jump_or, straight}
use Rattle.branch_simplify.specs.Simplified.{entries_left, lost_into, phi_left, simplified, simplified_block}
use Rattle.block_trim.specs.Trimmed.{IsTrimOf, block_in, blocks_in, entries_in, phi_in}
use Rattle.block_trim.specs.Merged.{IsMergeOf, Joins, behind_entry, entry_named, joined_block, joined_blocks, phi_named, renamed}
use Rattle.dead_code.specs.Least.{IsNeededOf}
use Rattle.ir_facts.specs.Settled.{choice_of, frozen_as, settled, settled_block, settled_instr, settled_line}
use Rattle.ir_facts.specs.Steps.{AreRounds, IsRound, IsStep, candidate_of, end_of, ends_of}
use Rattle.slot_promote.specs.Promoted.{End, blocks_with, end_at, end_with, entries_of, first_at, new_phis, next_number, phis_from, promoted_function}
use Rattle.promotable_slots.specs.Slots.{promoted_slots}
use Rattle.slot_promote.specs.Values.{at_start, behind_line, fetches, goes, instr_with, is_there, load_with, makes, placed, reg_of, regs, use_of, without_slots, writes}
use Rattle.slot_promote.specs.Values as slots
use Rattle.ir_meaning.specs.Counted.{sources, times}
use Rattle.inline_site.specs.Laws.{InlinedIsKnown, InlinedIsSound}
use Rattle.back_end.specs.Inlinable.{AreSound}
use Rattle.back_end.specs.Laws.{AreKnown, MadeIsKnown}
use Rattle.back_end.specs.Made.{AreTurns, IsTurn, MadeWhere}
use Rattle.back_end.specs.Walk.{AreWalks, Walks, next_place}
use Rattle.back_end.proofs.Naming.{known_in, known_out, ArgsKnown, BlockKnown, BlocksKnown, EndKnown, EntriesKnown, InstrKnown, LinesKnown, PhisKnown, lines_both, phis_both}
use Rattle.back_end.proofs.Ruling.{FactsKnown, by_blocks}

module _ (known : List Symbol) where
  abbrev Knows : Operand → Type 0
  Knows o = IsKnown known o

  abbrev Maybe : Option Operand → Type 0
  Maybe None = Unit {0}
  Maybe (Some v) = IsKnown known v

  -- ---- dead code

  needed_phis_known : (keeps : ℕ → Bool) (ps : List Phi) → PhisKnown known ps → PhisKnown known (needed_phis keeps ps)
  needed_phis_known keeps [] h = tt
  needed_phis_known keeps (p ∷ ps) h = by (keeps p.local) (needed_phis_known keeps ps h.1)
    where
      by : (b : Bool) → PhisKnown known (needed_phis keeps ps) → PhisKnown known (if b then p ∷ needed_phis keeps ps else needed_phis keeps ps)
      by true rest = (h.0, rest)
      by false rest = rest

  needed_lines_known : (keeps : ℕ → Bool) (ls : List Line) → LinesKnown known ls → LinesKnown known (needed_lines keeps ls)
  needed_lines_known keeps [] h = tt
  needed_lines_known keeps (l ∷ ls) h = by (is_needed keeps l) (needed_lines_known keeps ls h.1)
    where
      by : (b : Bool) → LinesKnown known (needed_lines keeps ls) → LinesKnown known (if b then l ∷ needed_lines keeps ls else needed_lines keeps ls)
      by true rest = (h.0, rest)
      by false rest = rest

  needed_known : (keeps : ℕ → Bool) (bs : List Block) → BlocksKnown known bs → BlocksKnown known (needed_blocks keeps bs)
  needed_known keeps [] h = tt
  needed_known keeps (b ∷ bs) h = (
    record { phis = needed_phis_known keeps b.phis h.0.phis; lines = needed_lines_known keeps b.lines h.0.lines; end = h.0.end },
    needed_known keeps bs h.1,
  )

  -- ---- trim

  entries_in_known : (reached : ℕ → Bool) (es : List Incoming) → EntriesKnown known es → EntriesKnown known (entries_in reached es)
  entries_in_known reached [] h = tt
  entries_in_known reached (e ∷ es) h = by (reached e.from) (entries_in_known reached es h.1)
    where
      by : (b : Bool) → EntriesKnown known (entries_in reached es) → EntriesKnown known (if b then e ∷ entries_in reached es else entries_in reached es)
      by true rest = (h.0, rest)
      by false rest = rest

  phis_in_known : (reached : ℕ → Bool) (ps : List Phi) → PhisKnown known ps → PhisKnown known (map (phi_in reached) ps)
  phis_in_known reached [] h = tt
  phis_in_known reached (p ∷ ps) h = (entries_in_known reached p.incoming h.0, phis_in_known reached ps h.1)

  trimmed_known : (reached : ℕ → Bool) (bs : List Block) → BlocksKnown known bs → BlocksKnown known (blocks_in reached bs)
  trimmed_known reached [] h = tt
  trimmed_known reached (b ∷ bs) h = by (reached b.number) (trimmed_known reached bs h.1)
    where
      by : (t : Bool) → BlocksKnown known (blocks_in reached bs) → BlocksKnown known (if t then block_in reached b ∷ blocks_in reached bs else blocks_in reached bs)
      by true rest = (record { phis = phis_in_known reached b.phis h.0.phis; lines = h.0.lines; end = h.0.end }, rest)
      by false rest = rest

  -- ---- branches

  entries_left_known : (lost : ℕ → ℕ) (es : List Incoming) → EntriesKnown known es → EntriesKnown known (entries_left lost es)
  entries_left_known lost [] h = tt
  entries_left_known lost (e ∷ es) h = by (nat_le (lost e.from) (times e.from (sources es))) (entries_left_known lost es h.1)
    where
      by : (b : Bool) → EntriesKnown known (entries_left lost es) → EntriesKnown known (if b then e ∷ entries_left lost es else entries_left lost es)
      by true rest = (h.0, rest)
      by false rest = rest

  phis_left_known : (lost : ℕ → ℕ) (ps : List Phi) → PhisKnown known ps → PhisKnown known (map (phi_left lost) ps)
  phis_left_known lost [] h = tt
  phis_left_known lost (p ∷ ps) h = (entries_left_known lost p.incoming h.0, phis_left_known lost ps h.1)

  straight_known : (t : Terminator) → EndKnown known t → EndKnown known (straight t)
  straight_known t h = by (decided t)
    where
      by : (o : Option ℕ) → EndKnown known (jump_or o t)
      by (Some target) = tt
      by None = h

  simplified_known : (lost : ℕ → List ℕ) (bs : List Block) → BlocksKnown known bs → BlocksKnown known (map (simplified_block lost) bs)
  simplified_known lost [] h = tt
  simplified_known lost (b ∷ bs) h = (
    record { phis = phis_left_known (λ n. times n (lost b.number)) b.phis h.0.phis; lines = h.0.lines; end = straight_known b.end h.0.end },
    simplified_known lost bs h.1,
  )

  -- ---- merge

  entries_named_known : (name : ℕ → ℕ) (es : List Incoming) → EntriesKnown known es → EntriesKnown known (map (entry_named name) es)
  entries_named_known name [] h = tt
  entries_named_known name (e ∷ es) h = (h.0, entries_named_known name es h.1)

  phis_named_known : (name : ℕ → ℕ) (ps : List Phi) → PhisKnown known ps → PhisKnown known (map (phi_named name) ps)
  phis_named_known name [] h = tt
  phis_named_known name (p ∷ ps) h = (entries_named_known name p.incoming h.0, phis_named_known name ps h.1)

  joined_known : (a : ℕ) (y : Block) → BlockKnown known y → (bs : List Block) → BlocksKnown known bs → BlocksKnown known (joined_blocks a y bs)
  joined_known a y taken [] h = tt
  joined_known a y taken (b ∷ bs) h = by (nat_eq y.number b.number) (joined_known a y taken bs h.1)
    where
      lines : (t : Bool) → LinesKnown known (if t then b.lines ++ y.lines else b.lines)
      lines true = lines_both known b.lines y.lines h.0.lines taken.lines
      lines false = h.0.lines

      end : (t : Bool) → EndKnown known (if t then y.end else b.end)
      end true = taken.end
      end false = h.0.end

      one : BlockKnown known (joined_block a y b)
      one = record { phis = phis_named_known (renamed y.number a) b.phis h.0.phis; lines = lines (nat_eq a b.number); end = end (nat_eq a b.number) }

      by : (t : Bool) → BlocksKnown known (joined_blocks a y bs) → BlocksKnown known (if t then joined_blocks a y bs else joined_block a y b ∷ joined_blocks a y bs)
      by true rest = rest
      by false rest = (one, rest)

  at_place : (bs : List Block) (i : ℕ) (b : Block) → slice_get bs i ≡ Some b → BlocksKnown known bs → BlockKnown known b
  at_place [] i b e h = absurd (cc e)
  at_place (x ∷ bs) zero b e h = let same : x ≡ b = cc e in subst (BlockKnown known) same h.0
  at_place (x ∷ bs) (suc i) b e h = at_place bs i b e h.1

  -- one behind the first
  at_later : (bs : List Block) (i : ℕ) (b : Block) → slice_get (behind_entry bs) i ≡ Some b → BlocksKnown known bs → BlockKnown known b
  at_later [] i b e h = absurd (cc e)
  at_later (x ∷ bs) i b e h = at_place bs i b e h.1

  merged_known : (k : ℕ) (f g : Function) → Joins k f g → BlocksKnown known f.blocks → BlocksKnown known g.blocks
  merged_known zero f g e h = subst (λ (x : Function). BlocksKnown known x.blocks) (sym e) h
  merged_known (suc k) f g (m, a, y, before, can, first, e) h =
      let was : BlocksKnown known m.blocks = merged_known k f m before h in
      subst (λ (x : Function). BlocksKnown known x.blocks) (sym e) (joined_known a.number y (at_later m.blocks can.second.0 y can.second.1 was) m.blocks was)

  -- ---- facts

  by_replacement : (rs : Facts) (x : ℕ) → FactsKnown known rs → Maybe (replacement rs x)
  by_replacement [] x h = tt
  by_replacement (r ∷ rs) x h = by (replacement rs x) (by_replacement rs x h.1) (r.0 == x)
    where
      by : (o : Option Operand) → Maybe o → (b : Bool) → Maybe (later_or o (if b then Some r.1 else None))
      by (Some v) later b = later
      by None later true = h.0
      by None later false = tt

  by_local : (fs : Facts) (x : ℕ) → FactsKnown known fs → Knows (replaced_local fs x)
  by_local [] x h = tt
  by_local ((y, v) ∷ fs) x h = by (y == x) (by_local fs x h.1)
    where
      by : (b : Bool) → Knows (replaced_local fs x) → Knows (if b then v else replaced_local fs x)
      by true rest = h.0
      by false rest = rest

  by_replaced : (fs : Facts) → FactsKnown known fs → (o : Operand) → Knows o → Knows (replaced fs o)
  by_replaced fs h (operand.Local x) k = by_local fs x h
  by_replaced fs h (operand.Number w n) k = k
  by_replaced fs h operand.Null k = k
  by_replaced fs h (operand.Poison r) k = k
  by_replaced fs h (operand.Symbol s i) k = k

  without_known : (y : ℕ) (fs : Facts) → FactsKnown known fs → FactsKnown known (without y fs)
  without_known y [] h = tt
  without_known y ((x, v) ∷ fs) h = by ((x == y) || is_local y v) (without_known y fs h.1)
    where
      by : (b : Bool) → FactsKnown known (without y fs) → FactsKnown known (if b then without y fs else (x, v) ∷ without y fs)
      by true rest = rest
      by false rest = (h.0, rest)

  with_known : (y : ℕ) (o : Option Operand) (fs : Facts) → Maybe o → FactsKnown known fs → FactsKnown known (with_fact y o fs)
  with_known y None fs k h = h
  with_known y (Some v) fs k h = (k, h)

  module _ (candidate : ℕ → Option Operand) (knows : (x : ℕ) → Maybe (candidate x)) where
    behind_known : (l : Option ℕ) (fs : Facts) → FactsKnown known fs → FactsKnown known (behind_local candidate l fs)
    behind_known None fs h = h
    behind_known (Some y) fs h = with_known y (candidate y) (without y fs) (knows y) (without_known y fs h)

    behind_all : (ls : List Line) (fs : Facts) → FactsKnown known fs → FactsKnown known (behind_lines candidate ls fs)
    behind_all [] fs h = h
    behind_all (l ∷ ls) fs h = behind_all ls (behind_local candidate l.local fs) (behind_known l.local fs h)

    -- ---- operands

    args_with : (op : Operand → Operand) → ((o : Operand) → Knows o → Knows (op o)) → (as' : List Argument) → ArgsKnown known as' → ArgsKnown known (map (argument_edited op) as')
    args_with op step [] h = tt
    args_with op step (a ∷ more) h = (step a.operand h.0, args_with op step more h.1)

    args_taken : (op : Operand → Operand) → ((o : Operand) → Knows o → Knows (op o)) → (reg : Reg) (es : List Incoming) → ArgsKnown known (phi_reads (kind.Phi reg es))
        → ArgsKnown known (phi_reads (kind.Phi reg (map (incoming_edited (λ n. n) op) es)))
    args_taken op step reg [] h = tt
    args_taken op step reg (e ∷ es) h = (step e.value h.0, args_taken op step reg es h.1)

    instr_with_known : (op : Operand → Operand) → ((o : Operand) → Knows o → Knows (op o)) → (i : Instr) → InstrKnown known i → InstrKnown known (with_operands op i)
    instr_with_known op step (kind.Binary o f w l r) h = ((step l h.0.0, (step r h.0.1.0, tt)), tt)
    instr_with_known op step (kind.Icmp p reg l r) h = ((step l h.0.0, (step r h.0.1.0, tt)), tt)
    instr_with_known op step (kind.Cast o from v to) h = ((step v h.0.0, tt), tt)
    instr_with_known op step (kind.Select c t e) h = ((step c h.0.0, (step t.operand h.0.1.0, (step e.operand h.0.1.1.0, tt))), tt)
    instr_with_known op step (kind.Freeze reg v) h = ((step v h.0.0, tt), tt)
    instr_with_known op step (kind.Alloca shape align) h = (tt, tt)
    instr_with_known op step (kind.Load reg a align) h = ((step a h.0.0, tt), tt)
    instr_with_known op step (kind.Store reg v a align) h = ((step v h.0.0, (step a h.0.1.0, tt)), tt)
    instr_with_known op step (kind.Address inbounds shape b is) h = ((step b h.0.0, args_with op step is h.0.1), tt)
    instr_with_known op step (kind.Call result c as') h = ((step c h.0.0, args_with op step as' h.0.1), tt)
    instr_with_known op step (kind.Phi reg es) h = (tt, args_taken op step reg es h.1)

    end_with_known : (fs : Facts) → FactsKnown known fs → (t : Terminator) → EndKnown known t → EndKnown known (end_replaced fs t)
    end_with_known fs k (Return None) h = tt
    end_with_known fs k (Return (Some a)) h = (by_replaced fs k a.operand h.0, tt)
    end_with_known fs k (Jump target) h = tt
    end_with_known fs k (Branch c t f) h = (by_replaced fs k c h.0, tt)
    end_with_known fs k (Switch w o d cs) h = (by_replaced fs k o h.0, tt)
    end_with_known fs k Unreachable h = tt

    lines_replaced_known : (ls : List Line) (fs : Facts) → FactsKnown known fs → LinesKnown known ls → LinesKnown known (lines_replaced candidate fs ls)
    lines_replaced_known [] fs k h = tt
    lines_replaced_known (l ∷ ls) fs k h = (instr_with_known (replaced fs) (by_replaced fs k) l.instr h.0, lines_replaced_known ls (behind_local candidate l.local fs) (behind_known l.local fs k) h.1)

    module _ (starts ends : ℕ → Facts) (starts_known : (n : ℕ) → FactsKnown known (starts n)) (ends_known : (n : ℕ) → FactsKnown known (ends n)) where
      edges_known : (es : List Incoming) → EntriesKnown known es → EntriesKnown known (edges_replaced ends es)
      edges_known [] h = tt
      edges_known (e ∷ es) h = (by_replaced (ends e.from) (ends_known e.from) e.value h.0, edges_known es h.1)

      phis_known : (ps : List Phi) → PhisKnown known ps → PhisKnown known (phis_replaced ends ps)
      phis_known [] h = tt
      phis_known (p ∷ ps) h = (edges_known p.incoming h.0, phis_known ps h.1)

      replaced_known : (bs : List Block) → BlocksKnown known bs → BlocksKnown known (blocks_replaced candidate starts ends bs)
      replaced_known [] h = tt
      replaced_known (b ∷ bs) h = (
        record {
          phis = phis_known b.phis h.0.phis;
          lines = lines_replaced_known b.lines (starts b.number) (starts_known b.number) h.0.lines;
          end = end_with_known (ends b.number) (ends_known b.number) b.end h.0.end;
        },
        replaced_known bs h.1,
      )

    facts_known : (fs : Facts) → ((x : ℕ) (v : Operand) → Has fs x v → candidate x ≡ Some v) → FactsKnown known fs
    facts_known [] has = tt
    facts_known ((y, v) ∷ fs) has = (subst Maybe (has y v (inl (refl, refl))) (knows y), facts_known fs (λ x u h. has x u (inr h)))

    end_facts_known : (starts : ℕ → Facts) → ((n : ℕ) → FactsKnown known (starts n)) → (o : Option Block) → FactsKnown known (end_of candidate starts o)
    end_facts_known starts k None = tt
    end_facts_known starts k (Some b) = behind_all b.lines (starts b.number) (k b.number)

    step_known : (f g : Function) → IsStep candidate f g → BlocksKnown known f.blocks → BlocksKnown known g.blocks
    step_known f g step h =
        let starts : (n : ℕ) → FactsKnown known (step.starts n) = λ n. facts_known (step.starts n) (λ x v has. step.solution.known n x v has) in
        subst (λ (x : Function). BlocksKnown known x.blocks) (sym (step.most step.starts step.solution (λ n x v has. has)))
        (replaced_known step.starts (ends_of candidate step.starts f) starts (λ n. end_facts_known step.starts starts (find_block f.blocks n)) f.blocks h)

  settled_instr_known : (i : Instr) → InstrKnown known i → InstrKnown known (settled_instr i)
  settled_instr_known i h = by (choice_of i)
    where
      by : (o : Option (ℕ × ℕ)) → InstrKnown known (frozen_as o i)
      by None = h
      by (Some (w, n)) = ((tt, tt), tt)

  settled_lines_known : (ls : List Line) → LinesKnown known ls → LinesKnown known (map settled_line ls)
  settled_lines_known [] h = tt
  settled_lines_known (l ∷ ls) h = (settled_instr_known l.instr h.0, settled_lines_known ls h.1)

  settled_known : (bs : List Block) → BlocksKnown known bs → BlocksKnown known (map settled_block bs)
  settled_known [] h = tt
  settled_known (b ∷ bs) h = (record { phis = h.0.phis; lines = settled_lines_known b.lines h.0.lines; end = h.0.end }, settled_known bs h.1)

  round_known : (f g : Function) → IsRound f g → BlocksKnown known f.blocks → BlocksKnown known g.blocks
  round_known f g round h = step_known (candidate_of (settled f)) (λ x. by_replacement _ x (by_blocks known (settled f).blocks was)) (settled f) g round was
    where
      was : BlocksKnown known (settled f).blocks
      was = settled_known f.blocks h

  rounds_known : (n : ℕ) (f g : Function) → AreRounds n f g → BlocksKnown known f.blocks → BlocksKnown known g.blocks
  unfolding AreRounds
  rounds_known zero f g e h = subst (λ (x : Function). BlocksKnown known x.blocks) (sym e) h
  rounds_known (suc n) f g (m, one, rest) h = rounds_known n m g rest (round_known f m one h)

  -- ---- numbers

  module _ (number : ℕ → ℕ) where
    by_renamed : (o : Operand) → Knows o → Knows (operand_renamed number o)
    by_renamed (operand.Local x) h = tt
    by_renamed (operand.Number w n) h = h
    by_renamed operand.Null h = h
    by_renamed (operand.Poison r) h = h
    by_renamed (operand.Symbol s i) h = h

    args_edited : (as' : List Argument) → ArgsKnown known as' → ArgsKnown known (map (argument_edited (operand_renamed number)) as')
    args_edited [] h = tt
    args_edited (a ∷ more) h = (by_renamed a.operand h.0, args_edited more h.1)

    entries_edited : (es : List Incoming) → EntriesKnown known es → EntriesKnown known (map (incoming_edited number (operand_renamed number)) es)
    entries_edited [] h = tt
    entries_edited (e ∷ es) h = (by_renamed e.value h.0, entries_edited es h.1)

    taken_edited : (reg : Reg) (es : List Incoming) → ArgsKnown known (phi_reads (kind.Phi reg es)) → ArgsKnown known (phi_reads (kind.Phi reg (map (incoming_edited number (operand_renamed number)) es)))
    taken_edited reg [] h = tt
    taken_edited reg (e ∷ es) h = (by_renamed e.value h.0, taken_edited reg es h.1)

    instr_edited_known : (i : Instr) → InstrKnown known i → InstrKnown known (instr_edited number (operand_renamed number) i)
    instr_edited_known (kind.Binary o f w l r) h = ((by_renamed l h.0.0, (by_renamed r h.0.1.0, tt)), tt)
    instr_edited_known (kind.Icmp p reg l r) h = ((by_renamed l h.0.0, (by_renamed r h.0.1.0, tt)), tt)
    instr_edited_known (kind.Cast o from v to) h = ((by_renamed v h.0.0, tt), tt)
    instr_edited_known (kind.Select c t e) h = ((by_renamed c h.0.0, (by_renamed t.operand h.0.1.0, (by_renamed e.operand h.0.1.1.0, tt))), tt)
    instr_edited_known (kind.Freeze reg v) h = ((by_renamed v h.0.0, tt), tt)
    instr_edited_known (kind.Alloca shape align) h = (tt, tt)
    instr_edited_known (kind.Load reg a align) h = ((by_renamed a h.0.0, tt), tt)
    instr_edited_known (kind.Store reg v a align) h = ((by_renamed v h.0.0, (by_renamed a h.0.1.0, tt)), tt)
    instr_edited_known (kind.Address inbounds shape b is) h = ((by_renamed b h.0.0, args_edited is h.0.1), tt)
    instr_edited_known (kind.Call result c as') h = ((by_renamed c h.0.0, args_edited as' h.0.1), tt)
    instr_edited_known (kind.Phi reg es) h = (tt, taken_edited reg es h.1)

    end_edited_known : (t : Terminator) → EndKnown known t → EndKnown known (end_edited number (operand_renamed number) t)
    end_edited_known (Return None) h = tt
    end_edited_known (Return (Some a)) h = (by_renamed a.operand h.0, tt)
    end_edited_known (Jump target) h = tt
    end_edited_known (Branch c t f) h = (by_renamed c h.0, tt)
    end_edited_known (Switch w o d cs) h = (by_renamed o h.0, tt)
    end_edited_known Unreachable h = tt

    lines_edited_known : (ls : List Line) → LinesKnown known ls → LinesKnown known (map (line_edited number (operand_renamed number)) ls)
    lines_edited_known [] h = tt
    lines_edited_known (l ∷ ls) h = (instr_edited_known l.instr h.0, lines_edited_known ls h.1)

    phis_edited_known : (ps : List Phi) → PhisKnown known ps → PhisKnown known (map (phi_edited number (operand_renamed number)) ps)
    phis_edited_known [] h = tt
    phis_edited_known (p ∷ ps) h = (entries_edited p.incoming h.0, phis_edited_known ps h.1)

    edited_known : (bs : List Block) → BlocksKnown known bs → BlocksKnown known (map (block_edited number (operand_renamed number)) bs)
    edited_known [] h = tt
    edited_known (b ∷ bs) h = (record { phis = phis_edited_known b.phis h.0.phis; lines = lines_edited_known b.lines h.0.lines; end = end_edited_known b.end h.0.end }, edited_known bs h.1)

  -- ---- slots

  abbrev ValuesKnown : Current → Type 0
  ValuesKnown c = (x : ℕ) → Knows (c x)

  abbrev UseKnown : Use → Type 0
  UseKnown (Writes x o) = IsKnown known o
  UseKnown _ = Unit {0}

  changed_known : (x : ℕ) (o : Operand) (c : Current) → Knows o → ValuesKnown c → ValuesKnown (changed x o c)
  changed_known x o c k h y = by (x == y)
    where
      by : (b : Bool) → Knows (if b then o else c y)
      by true = k
      by false = h y

  module _ (f : Function) where
    makes_known : (l : Option ℕ) → UseKnown (makes (placed 0 (promoted_slots f)) l)
    makes_known None = tt
    makes_known (Some x) = by (is_there ((placed 0 (promoted_slots f)) x))
      where
        by : (b : Bool) → UseKnown (if b then Makes x else Other)
        by true = tt
        by false = tt

    writes_known : (v a : Operand) → Knows v → UseKnown (writes (placed 0 (promoted_slots f)) v a)
    writes_known v (operand.Local x) h = by (is_there ((placed 0 (promoted_slots f)) x))
      where
        by : (b : Bool) → UseKnown (if b then Writes x v else Other)
        by true = h
        by false = tt
    writes_known v (operand.Number w n) h = tt
    writes_known v operand.Null h = tt
    writes_known v (operand.Poison r) h = tt
    writes_known v (operand.Symbol s i) h = tt

    fetches_known : (a : Operand) → UseKnown (fetches (placed 0 (promoted_slots f)) a)
    fetches_known (operand.Local x) = by (is_there ((placed 0 (promoted_slots f)) x))
      where
        by : (b : Bool) → UseKnown (if b then Fetches x else Other)
        by true = tt
        by false = tt
    fetches_known (operand.Number w n) = tt
    fetches_known operand.Null = tt
    fetches_known (operand.Poison r) = tt
    fetches_known (operand.Symbol s i) = tt

    use_known : (l : Option ℕ) (i : Instr) → InstrKnown known i → UseKnown (use_of (placed 0 (promoted_slots f)) l i)
    use_known l (kind.Alloca shape align) h = makes_known l
    use_known l (kind.Store reg v a align) h = writes_known v a h.0.0
    use_known l (kind.Load reg a align) h = fetches_known a
    use_known l (kind.Binary o f w x y) h = tt
    use_known l (kind.Icmp p reg x y) h = tt
    use_known l (kind.Cast o from v to) h = tt
    use_known l (kind.Select c t e) h = tt
    use_known l (kind.Freeze reg v) h = tt
    use_known l (kind.Address inbounds shape b is) h = tt
    use_known l (kind.Call result c as') h = tt
    use_known l (kind.Phi reg es) h = tt

    behind_use : (u : Use) (c : Current) → UseKnown u → ValuesKnown c → ValuesKnown (behind (regs (placed 0 (promoted_slots f))) u c)
    behind_use (Makes x) c k h = changed_known x (operand.Poison (regs (placed 0 (promoted_slots f)) x)) c tt h
    behind_use (Writes x o) c k h = changed_known x o c k h
    behind_use (Fetches x) c k h = h
    behind_use Other c k h = h

    behind_line_known : (l : Line) (c : Current) → InstrKnown known l.instr → ValuesKnown c → ValuesKnown (behind_line (placed 0 (promoted_slots f)) l c)
    behind_line_known l c k h = behind_use (use_of (placed 0 (promoted_slots f)) l.local l.instr) c (use_known l.local l.instr k) h

    behind_lines_known : (ls : List Line) (c : Current) → LinesKnown known ls → ValuesKnown c → ValuesKnown (slots.behind_lines (placed 0 (promoted_slots f)) c ls)
    behind_lines_known [] c k h = h
    behind_lines_known (l ∷ ls) c k h = behind_lines_known ls (behind_line (placed 0 (promoted_slots f)) l c) k.1 (behind_line_known l c k.0 h)

    start_known : (first : Option ℕ) → ValuesKnown (at_start (placed 0 (promoted_slots f)) first)
    start_known None x = tt
    start_known (Some n) x = tt

    load_known : (c : Current) (i : Instr) (a : Operand) → ValuesKnown c → InstrKnown known i → InstrKnown known (load_with (placed 0 (promoted_slots f)) c i a)
    load_known c i (operand.Local x) h k = by (is_there ((placed 0 (promoted_slots f)) x))
      where
        by : (b : Bool) → InstrKnown known (if b then chosen_value (reg_of ((placed 0 (promoted_slots f)) x)) (c x) else i)
        by true = ((tt, (h x, (h x, tt))), tt)
        by false = k
    load_known c i (operand.Number w n) h k = k
    load_known c i operand.Null h k = k
    load_known c i (operand.Poison r) h k = k
    load_known c i (operand.Symbol s n) h k = k

    instr_promoted : (c : Current) (i : Instr) → ValuesKnown c → InstrKnown known i → InstrKnown known (instr_with (placed 0 (promoted_slots f)) c i)
    instr_promoted c (kind.Load reg a align) h k = load_known c (kind.Load reg a align) a h k
    instr_promoted c (kind.Alloca shape align) h k = k
    instr_promoted c (kind.Store reg v a align) h k = k
    instr_promoted c (kind.Binary o f w x y) h k = k
    instr_promoted c (kind.Icmp p reg x y) h k = k
    instr_promoted c (kind.Cast o from v to) h k = k
    instr_promoted c (kind.Select x t e) h k = k
    instr_promoted c (kind.Freeze reg v) h k = k
    instr_promoted c (kind.Address inbounds shape b is) h k = k
    instr_promoted c (kind.Call result x as') h k = k
    instr_promoted c (kind.Phi reg es) h k = k

    lines_promoted : (ls : List Line) (c : Current) → ValuesKnown c → LinesKnown known ls → LinesKnown known (without_slots (placed 0 (promoted_slots f)) c ls)
    lines_promoted [] c h k = tt
    lines_promoted (l ∷ ls) c h k = by (goes (placed 0 (promoted_slots f)) l.local l.instr) (lines_promoted ls (behind_line (placed 0 (promoted_slots f)) l c) (behind_line_known l c k.0 h) k.1)
      where
        by : (b : Bool) → LinesKnown known (without_slots (placed 0 (promoted_slots f)) (behind_line (placed 0 (promoted_slots f)) l c) ls)
            → LinesKnown known (if b then without_slots (placed 0 (promoted_slots f)) (behind_line (placed 0 (promoted_slots f)) l c) ls else record { local = l.local; instr = instr_with (placed 0 (promoted_slots f)) c l.instr } ∷ without_slots (placed 0 (promoted_slots f)) (behind_line (placed 0 (promoted_slots f)) l c) ls)
        by true rest = rest
        by false rest = (instr_promoted c l.instr h k.0, rest)

    end_values_known : (first : Option ℕ) (o : Option Block) → ((b : Block) → o ≡ Some b → BlockKnown known b) → ValuesKnown (end_with (placed 0 (promoted_slots f)) first o).values
    end_values_known first None h x = tt
    end_values_known first (Some b) h x = behind_lines_known b.lines (at_start (placed 0 (promoted_slots f)) first) (h b refl).lines (start_known first) x

    module _ (ends : ℕ → End) (ends_known : (p : ℕ) → ValuesKnown (ends p).values) where
      entries_promoted : (x : ℕ) (from : List ℕ) → EntriesKnown known (entries_of ends x from)
      entries_promoted x [] = tt
      entries_promoted x (p ∷ from) = (ends_known p x, entries_promoted x from)

      phis_promoted : (from : List ℕ) (n : ℕ) (ts : _) → PhisKnown known (phis_from ends from n ts)
      phis_promoted from n [] = tt
      phis_promoted from n (s ∷ ts) = (entries_promoted s.local from, phis_promoted from (suc n) ts)

      news_known : (from : List ℕ) (first : Option ℕ) (ts : _) → PhisKnown known (new_phis ends from first ts)
      news_known from None ts = tt
      news_known from (Some n) ts = phis_promoted from n ts

      promoted_blocks : (from : ℕ → List ℕ) (first : ℕ → Option ℕ) (p : ℕ) (bs : List Block) → BlocksKnown known bs → BlocksKnown known (blocks_with (placed 0 (promoted_slots f)) (promoted_slots f) ends from first p bs)
      promoted_blocks from first p [] h = tt
      promoted_blocks from first p (b ∷ bs) h = (
        record {
          phis = phis_both known (new_phis ends (from p) (first p) (promoted_slots f)) b.phis (news_known (from p) (first p) (promoted_slots f)) h.0.phis;
          lines = lines_promoted b.lines (at_start (placed 0 (promoted_slots f)) (first p)) (start_known (first p)) h.0.lines;
          end = h.0.end;
        },
        promoted_blocks from first (suc p) bs h.1,
      )

  promoted_known : (f : Function) → BlocksKnown known f.blocks → BlocksKnown known (promoted_function f).blocks
  promoted_known f h =
      promoted_blocks f (end_at f (promoted_slots f) (next_number f))
      (λ p. end_values_known f (first_at f (promoted_slots f) (next_number f) p) (slice_get f.blocks p) (λ b e. at_place f.blocks p b e h))
      (edges f) (first_at f (promoted_slots f) (next_number f)) 0 f.blocks h

-- ---- their order

pub record NameLaws : Type 0 where
  pub inlined : InlinedIsKnown
  pub inlined_sound : InlinedIsSound

module _ (laws : NameLaws) (known : List Symbol) (bodies : List ℕ → Option Function) (sounds : AreSound bodies) (knows : AreKnown known bodies) where
  abbrev Uses : Function → Type 0
  Uses f = All (ItemKnown known) (items f)

  walk_known : (k from : ℕ) (f g : Function) → Sound f → Uses f → Walks k bodies from f g → Sound g × Uses g
  unfolding Walks
  walk_known zero from f g sound h (none, e) = subst (λ (x : Function). Sound x × Uses x) (sym e) (sound, h)
  walk_known (suc k) from f g sound h (place, c, first, m, inlined, rest) =
      let own : Sound c = sounds c.symbol.name c first.takes.takes.body in
      walk_known k (next_place f place m) m g (laws.inlined_sound f c m place inlined sound own)
      (laws.inlined f c m place known inlined sound own h (knows c.symbol.name c first.takes.takes.body)) rest

  walks_known : (n : ℕ) (f g : Function) → Sound f → Uses f → AreWalks n bodies f g → Uses g
  unfolding AreWalks
  walks_known zero f g sound h e = subst Uses (sym e) h
  walks_known (suc n) f g sound h (m, (k, walk), rest) = let both : Sound m × Uses m = walk_known k 1 f m sound h walk in walks_known n m g both.0 both.1 rest

  turn_known : (f g : Function) → IsTurn f g → BlocksKnown known f.blocks → BlocksKnown known g.blocks
  turn_known f g turn h = by turn.trim turn.merge turn.needed
    where
      simple : BlocksKnown known (simplified turn.propagated).blocks
      simple = simplified_known known (λ m. lost_into m turn.propagated.blocks) turn.propagated.blocks (rounds_known known 16 f turn.propagated turn.facts h)

      by : IsTrimOf (simplified turn.propagated) turn.trimmed → IsMergeOf turn.trimmed turn.merged → IsNeededOf turn.merged g → BlocksKnown known g.blocks
      by (reached, are, trim) (k, joins, none) (keeps, least, e) =
          let trimmed : BlocksKnown known turn.trimmed.blocks =
          subst (λ (x : Function). BlocksKnown known x.blocks) (sym trim) (trimmed_known known reached (simplified turn.propagated).blocks simple) in
          subst (λ (x : Function). BlocksKnown known x.blocks) (sym e) (needed_known known keeps turn.merged.blocks (merged_known known k turn.trimmed turn.merged joins trimmed))

  turns_known : (n : ℕ) (f g : Function) → AreTurns n f g → BlocksKnown known f.blocks → BlocksKnown known g.blocks
  unfolding AreTurns
  turns_known zero f g e h = subst (λ (x : Function). BlocksKnown known x.blocks) (sym e) h
  turns_known (suc n) f g (m, one, rest) h = turns_known n m g rest (turn_known f m one h)

  where_known : (b : Bool) (f g : Function) → Sound f → MadeWhere b bodies f g → Uses f → Uses g
  where_known true f g sound e h = subst Uses (sym e) h
  where_known false f g sound made h =
      let walked : BlocksKnown known made.walked.blocks = known_in known 0 made.walked.blocks (walks_known 3 f made.walked sound h made.walks) in
      let turned : BlocksKnown known made.turned.blocks = turns_known 3 (promoted_function made.walked) made.turned made.turns (promoted_known known made.walked walked) in
      subst Uses (sym made.order) (known_out known 0 (in_text_order made.turned).blocks (edited_known known (new_number (numbers_of made.turned)) made.turned.blocks turned))

pub made_known : NameLaws → MadeIsKnown
made_known laws bodies f g known sound sounds made knows h = where_known laws known bodies sounds knows f.optnone f g sound made h
