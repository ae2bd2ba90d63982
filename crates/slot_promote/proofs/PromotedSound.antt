-- A sound function with its slots promoted is sound.
use Rattle.std.proofs.Common.{◌≡◌, ℕ, zero, suc, ◌+◌, ◌≤◌, ◌<◌, nat_eq, Bool, true, false, cond, not, List, [], ◌∷◌, ◌++◌, length, get_or, map, Option, Some, None, ◌⊎◌, inl, inr, refl, sym, ◌∙◌, ap, subst, arith, lit<, lit≤, if◌then◌else◌, append_assoc, append-nil}
use Rattle.std.specs.Prelude.{All, IsSome, count_by, slice_get}
use Rattle.std.proofs.lemmas.Bool.{eq-eqb, eqb-true, or_cases, or_left, or_right}
use Rattle.std.proofs.lemmas.List.Elements.{All-append, All-cons, All-head, All-nil, All-tail}
use Rattle.ir_tree.specs.Flow.{Among, AvailableAt, edges, holds, line_count, successors}
use Rattle.ir_tree.specs.Forms.{Form}
use Rattle.ir_tree.specs.Formed.{ArgumentFormed, Distinct, InstrFormed, IsBlock, IsReg, ItemFormed, ResultFormed}
use Rattle.ir_tree.specs.Items.{Item, phi_item, line_item, end_item, block_items, end_reads, items, items_from, lines_from, phi_reads, reads, taken_as, typed}
use Rattle.ir_tree.specs.Rules.{EndTypes, HasType, IsNoPhi, IsThere, IsThereAtEnd, Keeps, LineCasts, LineFollows, LineTypes, OnEdges, Sound, place}
use Rattle.ir_tree.specs.declared.block.Block.{Block}
use Rattle.ir_tree.specs.declared.block.Terminator.{Terminator}
use Rattle.ir_tree.specs.declared.block.Terminator.TheVariants.{Branch, Jump, Return, Switch, Unreachable}
use Rattle.ir_tree.specs.declared.function.Function.{Function}
use Rattle.ir_tree.specs.declared.instr.Incoming.{Incoming}
use Rattle.ir_tree.specs.declared.instr.Instr.{Instr}
use Rattle.ir_tree.specs.declared.instr.Instr.TheVariants as kind
use Rattle.ir_tree.specs.declared.instr.Line.{Line}
use Rattle.ir_tree.specs.declared.instr.Phi.{Phi}
use Rattle.ir_tree.specs.declared.operand.Argument.{Argument}
use Rattle.ir_tree.specs.declared.operand.Operand.{Operand}
use Rattle.ir_tree.specs.declared.operand.Operand.TheVariants.{Local, Number, Null, Poison, Symbol as Named}
use Rattle.ir_tree.specs.declared.operand.Reg.{Reg}
use Rattle.ir_tree.specs.declared.operand.Reg.TheVariants.{Int, Ptr}
use Rattle.ir_tree.specs.declared.rule.Rule.{Rule}
use Rattle.ir_tree.specs.declared.rule.Rule.TheVariants.{TypeMismatch, NotAvailable, PhiEdges, PhiPlace, EntryBranch, Index, Cast, CaseTwice}
use Rattle.ir_meaning.specs.Needed.{AllKept, EdgesKept, EndReads, IsKept, UsesKept}
use Rattle.ir_meaning.specs.Promote.{Current, Fetches, Makes, Other, Use, Writes, chosen_value, put}
use Rattle.slot_promote.specs.Laws.{PromotedIsSound}
use Rattle.slot_promote.specs.Promoted.{End, end_at, end_with, entries_of, entry_of, first_at, free, new_phis, next_number, phis_from, promoted_with, takes}
use Rattle.promotable_slots.specs.Slots.{is_accessed_as, promoted_slots, scalar}
use Rattle.promotable_slots.specs.Uses.{entry_uses, phi_uses}
use Rattle.slot_promote.specs.Values.{at_start, behind_line, behind_lines, goes, is_there, placed, reg_of, regs, use_of, without_slots}
use Rattle.promotable_slots.specs.declared.slots.Slot.{Slot}
use Rattle.slot_promote.proofs.Carried.{AllGood, Good, end_good, behind_both, behind_front, first_good, keep_formed, keep_there, keep_type, moved_step, next_good, tidy}
use Rattle.slot_promote.proofs.Facts.{in_block, in_end, in_phis, used_front, used_back, used_in_block, used_in_end, used_in_phis}
use Rattle.slot_promote.proofs.Lines.{line_with}
use Rattle.slot_promote.proofs.Once.{news, once_stays}
use Rattle.slot_promote.proofs.Paths.{found_new, moved}
use Rattle.slot_promote.proofs.Plans.{LineFits, fits_at, kept_end, kept_entries, line_fact, made_here, made_slot, plan, slot_accessed, slot_stored}
use Rattle.slot_promote.proofs.Shapes.{edges_stay, numbers_stay, place_stays, promoted_at, promoted_from, put_is}
use Rattle.slot_promote.proofs.Slotted.{AreRight, Gives, Made, are_right, scalar_reg}
use Rattle.ir_meaning.proofs.Everywhere.{all_front}
use Rattle.ir_meaning.proofs.Counting.{numbers_in, place_is, times_is}
use Rattle.ir_meaning.specs.Counted.{times}
use Rattle.std.proofs.lemmas.List.Recursion.{is_count_by}
use Rattle.ir_meaning.proofs.Entries.{apart}
use Rattle.ir_flow.proofs.Reaching.{edge-from}
use Rattle.ir_meaning.proofs.NoPhis.{no_edges, no_phi_reads, no_taken}

abbrev Kept : (ℕ → Bool) → List Argument → Type 0
Kept keeps as' = All (λ a. IsKept keeps a.operand) as'

kept_arguments : (keeps : ℕ → Bool) (as' : List Argument) → AllKept keeps as' → Kept keeps as'
kept_arguments keeps [] h = All-nil (λ a. IsKept keeps a.operand)
kept_arguments keeps (a ∷ more) h = All-cons (λ a. IsKept keeps a.operand) a more h.0 (kept_arguments keeps more h.1)

one_kept : (keeps : ℕ → Bool) (a : Argument) → IsKept keeps a.operand → Kept keeps (a ∷ [])
one_kept keeps a h = kept_arguments keeps (a ∷ []) (h, tt)

two_kept : (keeps : ℕ → Bool) (a b : Argument) → IsKept keeps a.operand × IsKept keeps b.operand → Kept keeps (a ∷ b ∷ [])
two_kept keeps a b h = kept_arguments keeps (a ∷ b ∷ []) (h.0, (h.1, tt))

kept_line : (keeps : ℕ → Bool) (i : Instr) → IsNoPhi i → UsesKept keeps i → Kept keeps (reads i)
kept_line keeps (kind.Binary op flags width left right) n h = two_kept keeps (typed (Int width) left) (typed (Int width) right) h
kept_line keeps (kind.Icmp predicate reg left right) n h = two_kept keeps (typed reg left) (typed reg right) h
kept_line keeps (kind.Cast op from value to) n h = one_kept keeps (typed from value) h
kept_line keeps (kind.Select condition if_true if_false) n h =
    All-cons (λ a. IsKept keeps a.operand) (typed (Int 1) condition) (if_true ∷ if_false ∷ []) h.0 (two_kept keeps if_true if_false (h.1, h.2))
kept_line keeps (kind.Freeze reg value) n h = one_kept keeps (typed reg value) h
kept_line keeps (kind.Alloca shape align) n h = All-nil (λ a. IsKept keeps a.operand)
kept_line keeps (kind.Load reg address align) n h = one_kept keeps (typed Ptr address) h
kept_line keeps (kind.Store reg value address align) n h = two_kept keeps (typed reg value) (typed Ptr address) h
kept_line keeps (kind.Address inbounds shape base indices) n h = All-cons (λ a. IsKept keeps a.operand) (typed Ptr base) indices h.0 (kept_arguments keeps indices h.1)
kept_line keeps (kind.Call result callee arguments) n h = All-cons (λ a. IsKept keeps a.operand) (typed Ptr callee) arguments h.0 (kept_arguments keeps arguments h.1)
kept_line keeps (kind.Phi reg incoming) n h = absurd n

kept_last : (keeps : ℕ → Bool) (t : Terminator) → EndReads keeps t → Kept keeps (end_reads t)
kept_last keeps (Return None) h = All-nil (λ a. IsKept keeps a.operand)
kept_last keeps (Return (Some a)) h = one_kept keeps a h
kept_last keeps (Jump target) h = All-nil (λ a. IsKept keeps a.operand)
kept_last keeps (Branch condition if_true if_false) h = one_kept keeps (typed (Int 1) condition) h
kept_last keeps (Switch width value default cases) h = one_kept keeps (typed (Int width) value) h
kept_last keeps Unreachable h = All-nil (λ a. IsKept keeps a.operand)

-- ---- blocks by their numbers and places

abbrev Found : List Block → ℕ → Type 0
Found bs p = (c : Block) × (slice_get bs p ≡ Some c)

-- the block of a number stands at the number's place
block_held : (bs : List Block) (m : ℕ) → holds (map (λ b. b.number) bs) m ≡ true → Found bs (place bs m)
block_held [] m h = absurd cc
block_held (x ∷ bs) m h = at (nat_eq x.number m) refl (or_cases (nat_eq m x.number) (holds (map (λ b. b.number) bs) m) h) (block_held bs m)
  where
    at : (t : Bool) → nat_eq x.number m ≡ t → (nat_eq m x.number ≡ true) ⊎ (holds (map (λ b. b.number) bs) m ≡ true) → (holds (map (λ b. b.number) bs) m ≡ true → Found bs (place bs m)) → Found (x ∷ bs) (if t then zero else suc (place bs m))
    at true is e more = (x, refl)
    at false is (inl e) more = let both : true ≡ false = sym (eq-eqb x.number m (sym (eqb-true m x.number e))) ∙ is in absurd (cc both)
    at false is (inr e) more = more e

number_held : (bs : List Block) (p : ℕ) (c : Block) → slice_get bs p ≡ Some c → holds (map (λ b. b.number) bs) c.number ≡ true
number_held [] p c found = absurd cc
number_held (x ∷ bs) zero c found =
    let same : x ≡ c = cc found in
    or_left (nat_eq c.number x.number) (holds (map (λ b. b.number) bs) c.number) (eq-eqb c.number x.number (ap (λ (y : Block). y.number) (sym same)))
number_held (x ∷ bs) (suc p) c found = or_right (nat_eq c.number x.number) (holds (map (λ b. b.number) bs) c.number) (number_held bs p c found)

there_block : (bs : List Block) (p : ℕ) → p < length bs → Found bs p
there_block [] p lt = absurd (omega (arith, lt))
there_block (x ∷ bs) zero lt = (x, refl)
there_block (x ∷ bs) (suc p) lt = there_block bs p (omega (arith, lt))

-- ---- entries of new phis

entry_from : (ends : ℕ → End) (x : ℕ) (from : List ℕ) (i : ℕ) (e : Incoming) → slice_get (entries_of ends x from) i ≡ Some e → (p : ℕ) × Among p from × (entry_of x (ends p) ≡ e)
entry_from ends x [] i e found = absurd cc
entry_from ends x (p ∷ from) zero e found = (p, inl refl, cc found)
entry_from ends x (p ∷ from) (suc i) e found = by (entry_from ends x from i e found)
  where
    by : (q : ℕ) × Among q from × (entry_of x (ends q) ≡ e) → (q : ℕ) × Among q (p ∷ from) × (entry_of x (ends q) ≡ e)
    by (q, among, is) = (q, inr among, is)

abbrev count : (ℕ → ℕ) → ℕ → List Incoming → ℕ
count place_of q [] = 0
count place_of q (e ∷ es) = cond (nat_eq (place_of e.from) q) (1 + count place_of q es) (count place_of q es)

-- as many entries of a block as edges from it, where the places of the blocks are those of the edges
counted_edges : (place_of : ℕ → ℕ) (ends : ℕ → End) (x q : ℕ) (from : List ℕ) → ((p : ℕ) → Among p from → place_of (ends p).number ≡ p) → count place_of q (entries_of ends x from) ≡ times q from
counted_edges place_of ends x q [] same = refl
counted_edges place_of ends x q (p ∷ from) same =
    more (nat_eq (place_of (ends p).number) q) (nat_eq p q) (ap (λ (k : ℕ). nat_eq k q) (same p (inl refl))) (counted_edges place_of ends x q from (λ r among. same r (inr among)))
  where
    more : (t u : Bool) → t ≡ u → count place_of q (entries_of ends x from) ≡ times q from
        → cond t (1 + count place_of q (entries_of ends x from)) (count place_of q (entries_of ends x from)) ≡ (if u then suc (times q from) else times q from)
    more true true e h = omega (arith, h)
    more true false e h = absurd cc
    more false true e h = absurd cc
    more false false e h = h

counted : (place_of : ℕ → ℕ) (ends : ℕ → End) (x q : ℕ) (from : List ℕ) → ((p : ℕ) → Among p from → place_of (ends p).number ≡ p)
    → count_by (λ e. nat_eq (place_of e.from) q) (entries_of ends x from) ≡ count_by (λ p. nat_eq p q) from
counted place_of ends x q from same =
    sym (is_count_by (count place_of q) (λ e. nat_eq (place_of e.from) q) refl (λ x xs. refl) (entries_of ends x from)) ∙ counted_edges place_of ends x q from same ∙ times_is q from

placed_has : (k : ℕ) (ss : List Slot) (i : ℕ) (s : Slot) → slice_get ss i ≡ Some s → is_there (placed k ss s.local) ≡ true
placed_has k [] i s found = absurd cc
placed_has k (x ∷ ss) i s found = by i found (nat_eq x.local s.local) refl (λ j e. placed_has (suc k) ss j s e)
  where
    by : (i : ℕ) → slice_get (x ∷ ss) i ≡ Some s → (t : Bool) → nat_eq x.local s.local ≡ t → ((j : ℕ) → slice_get ss j ≡ Some s → is_there (placed (suc k) ss s.local) ≡ true)
        → is_there (if t then Some (record { rank = k; reg = x.reg }) else placed (suc k) ss s.local) ≡ true
    by i e true is more = refl
    by zero e false is more =
        let same : x ≡ s = cc e in
        let both : true ≡ false = sym (eq-eqb x.local s.local (ap (λ (y : Slot). y.local) same)) ∙ is in
        absurd (cc both)
    by (suc i) e false is more = more i e

takes_not_entry : (b : ℕ) (es : List ℕ) → takes b es ≡ true → b ≡ 0 → ⊥
takes_not_entry b [] h e = cc
takes_not_entry b (p ∷ es) h e = let both : not true ≡ true = sym (ap not (eq-eqb b 0 e)) ∙ h in cc both

module _ (f : Function) (ss : List Slot) (n : ℕ) (sound : Sound f) (right : AreRight f ss) (above : next_number f ≤ n) where
  abbrev g : Function
  g = promoted_with f ss n

  abbrev keeps : ℕ → Bool
  keeps = (plan f ss n).keeps

  abbrev Was : Item → Type 0
  Was item = ItemFormed f item × ((rule : Rule) → Keeps f rule item)

  abbrev Now : Item → Type 0
  Now item = ItemFormed g item × ((rule : Rule) → Keeps g rule item)

  was : All Was (items f)
  was = λ k d lt. (sound.formed.items k d lt, λ rule. sound.rules rule k d lt)

  record New (there : Operand → Type 0) (a : Argument) : Type 0 where
    formed : ArgumentFormed g a
    typed_as : HasType g a
    found : there a.operand

  one_new : (P Q : Operand → Type 0) → ((o : Operand) → IsKept keeps o → P o → Q o) → (a : Argument) → IsKept keeps a.operand → ArgumentFormed f a → HasType f a → P a.operand → New Q a
  one_new P Q step a k formed type there = record {
    formed = (formed.0, keep_formed f ss n sound right above a.operand k formed.1);
    typed_as = keep_type f ss n sound right above a.operand a.reg k type;
    found = step a.operand k there;
  }

  carry : (P Q : Operand → Type 0) → ((o : Operand) → IsKept keeps o → P o → Q o) → (as' : List Argument) → Kept keeps as' → All (ArgumentFormed f) as' → All (HasType f) as' → All (λ a. P a.operand) as' → All (New Q) as'
  carry P Q step as' kept formed types there = λ k d lt. one_new P Q step (get_or as' k d) (kept k d lt) (formed k d lt) (types k d lt) (there k d lt)

  block_there : (m : ℕ) → IsBlock f m → IsBlock g m
  block_there m h = ap (λ (l : List ℕ). holds l m) (numbers_stay f ss n) ∙ h

  -- ---- lines

  line_now : (b j : ℕ) (l : Line) → IsNoPhi l.instr → All (New (IsThere g b j)) (reads l.instr) → InstrFormed l.instr × ResultFormed l.instr l.local → LineTypes l.local l.instr → LineFollows l.instr → LineCasts l.instr → Now (line_item b j l)
  line_now b j l plain_kind new formed types follows casts = (
    record {
      operands = subst (All (ArgumentFormed g)) (sym plain) (λ k d lt. (new k d lt).formed);
      sources = subst (All (λ e. IsBlock g e.from)) (sym (no_taken l.instr plain_kind)) (All-nil (λ e. IsBlock g e.from));
      kind = formed;
    },
    keeps_rule,
  )
    where
      plain : reads l.instr ++ phi_reads l.instr ≡ reads l.instr
      plain = ap (λ (more : List Argument). reads l.instr ++ more) (no_phi_reads l.instr plain_kind) ∙ append-nil (reads l.instr)

      keeps_rule : (rule : Rule) → Keeps g rule (line_item b j l)
      keeps_rule TypeMismatch = (subst (All (HasType g)) (sym plain) (λ k d lt. (new k d lt).typed_as), types)
      keeps_rule NotAvailable = (
        λ k d lt. (new k d lt).found,
        subst (All (λ e. IsThereAtEnd g (place g.blocks e.from) e.value)) (sym (no_taken l.instr plain_kind)) (All-nil (λ e. IsThereAtEnd g (place g.blocks e.from) e.value)),
      )
      keeps_rule PhiEdges = no_edges g b l.instr plain_kind
      keeps_rule PhiPlace = plain_kind
      keeps_rule EntryBranch = tt
      keeps_rule Index = follows
      keeps_rule Cast = casts
      keeps_rule CaseTwice = tt

  module _ (b : ℕ) (block : Block) (found : slice_get f.blocks b ≡ Some block) where
    abbrev start : Current
    start = at_start (placed 0 ss) (first_at f ss n b)

    same_line : (front rest : List Line) (l : Line) → block.lines ≡ front ++ l ∷ rest → slice_get block.lines (length front) ≡ Some l → UsesKept keeps l.instr → Now (line_item b (moved f ss n (tidy f ss n sound right above) b block found front) l)
    same_line front rest l is at_l kept =
        let w : Was (line_item b (length front) l) = line_fact f ss n sound right b block found Was (length front) l at_l was in
        let plain_kind : IsNoPhi l.instr = w.1 PhiPlace in
        line_now b (moved f ss n (tidy f ss n sound right above) b block found front) l plain_kind
        (carry (IsThere f b (length front)) (IsThere g b (moved f ss n (tidy f ss n sound right above) b block found front)) (λ o k h. keep_there f ss n sound right above b block found front (l ∷ rest) is o k h) (reads l.instr)
        (kept_line keeps l.instr plain_kind kept) (all_front (ArgumentFormed f) (reads l.instr) (phi_reads l.instr) w.0.operands) (all_front (HasType f) (reads l.instr) (phi_reads l.instr) (w.1 TypeMismatch).0) (w.1 NotAvailable).0)
        w.0.kind (w.1 TypeMismatch).1 (w.1 Index) (w.1 Cast)

    -- `select i1 true, v, v`
    select_line : (j : ℕ) (local : Option ℕ) (reg : Reg) (v : Operand) → IsReg reg → IsSome local → Good f ss n sound right above b j reg v → Now (line_item b j (record { local = local; instr = chosen_value reg v }))
    select_line j local reg v is_reg some good =
        line_now b j (record { local = local; instr = chosen_value reg v }) tt
        (All-cons (New (IsThere g b j)) (typed (Int 1) (Number 1 1)) (typed reg v ∷ typed reg v ∷ [])
        (record { formed = ((lit≤ tt, lit≤ tt), ((lit≤ tt, lit≤ tt), lit< tt)); typed_as = refl; found = tt })
        (All-cons (New (IsThere g b j)) (typed reg v) (typed reg v ∷ []) arm (All-cons (New (IsThere g b j)) (typed reg v) [] arm (All-nil (New (IsThere g b j))))))
        (tt, some) refl tt tt
      where
        arm : New (IsThere g b j) (typed reg v)
        arm = record { formed = (is_reg, good.formed); typed_as = good.has_type; found = good.there }

    -- a line that stays, by what it does with slots
    by_use : (front rest : List Line) (l l' : Line) → block.lines ≡ front ++ l ∷ rest → slice_get block.lines (length front) ≡ Some l → (c : Current)
        → AllGood f ss n sound right above b (moved f ss n (tidy f ss n sound right above) b block found front) c
        → (u : Use) → LineFits f ss n sound right u l → put (λ x. reg_of (placed 0 ss x)) u c l [] ≡ l' ∷ [] → Now (line_item b (moved f ss n (tidy f ss n sound right above) b block found front) l')
    by_use front rest l l' is at_l c good (Makes x) h e = absurd cc
    by_use front rest l l' is at_l c good (Writes x o) h e = absurd cc
    by_use front rest l l' is at_l c good (Fetches x) h e =
        let same : record { local = l.local; instr = chosen_value (reg_of (placed 0 ss x)) (c x) } ≡ l' = cc e in
        let w : ItemFormed f (line_item b (length front) l) = line_fact f ss n sound right b block found (ItemFormed f) (length front) l at_l sound.formed.items in
        let some : IsSome l.local = subst (λ (i : Instr). ResultFormed i l.local) h.3 w.kind.1 in
        subst (λ (x : Line). Now (line_item b (moved f ss n (tidy f ss n sound right above) b block found front) x)) same
        (select_line (moved f ss n (tidy f ss n sound right above) b block found front) l.local (reg_of (placed 0 ss x)) (c x)
        (scalar_reg (made_slot f ss n sound right x h.0).shape (reg_of (placed 0 ss x)) (slot_stored f ss n sound right x h.0) (made_slot f ss n sound right x h.0).scalar_is) some (good x h.0))
    by_use front rest l l' is at_l c good Other h e =
        let same : l ≡ l' = cc e in
        subst (λ (x : Line). Now (line_item b (moved f ss n (tidy f ss n sound right above) b block found front) x)) same (same_line front rest l is at_l h.1)

    lines_now : (front ls : List Line) → block.lines ≡ front ++ ls → AllGood f ss n sound right above b (moved f ss n (tidy f ss n sound right above) b block found front) (behind_lines (placed 0 ss) start front)
        → All Now (lines_from b (moved f ss n (tidy f ss n sound right above) b block found front) (without_slots (placed 0 ss) (behind_lines (placed 0 ss) start front) ls))
    lines_now front [] is good = All-nil Now
    lines_now front (l ∷ ls) is good =
        by (goes (placed 0 ss) l.local l.instr) refl
        (subst (λ (j : ℕ). All Now (lines_from b j (without_slots (placed 0 ss) (behind_line (placed 0 ss) l (behind_lines (placed 0 ss) start front)) ls))) (moved_step f ss n sound right above b block found front l)
        (subst (λ (d : Current). All Now (lines_from b (moved f ss n (tidy f ss n sound right above) b block found (front ++ l ∷ [])) (without_slots (placed 0 ss) d ls))) (behind_both f ss n sound right above start front (l ∷ []))
        (lines_now (front ++ l ∷ []) ls (is ∙ sym (append_assoc front (l ∷ []) ls)) (next_good f ss n sound right above b block found front ls l is good))))
      where
        at_l : slice_get block.lines (length front) ≡ Some l
        at_l = ap (λ (xs : List Line). slice_get xs (length front)) is ∙ behind_front front l ls

        by : (t : Bool) → goes (placed 0 ss) l.local l.instr ≡ t → All Now (lines_from b (if t then moved f ss n (tidy f ss n sound right above) b block found front else suc (moved f ss n (tidy f ss n sound right above) b block found front)) (without_slots (placed 0 ss) (behind_line (placed 0 ss) l (behind_lines (placed 0 ss) start front)) ls))
            → All Now (lines_from b (moved f ss n (tidy f ss n sound right above) b block found front) (if t then (without_slots (placed 0 ss) (behind_line (placed 0 ss) l (behind_lines (placed 0 ss) start front)) ls) else line_with (placed 0 ss) (behind_lines (placed 0 ss) start front) l ∷ (without_slots (placed 0 ss) (behind_line (placed 0 ss) l (behind_lines (placed 0 ss) start front)) ls)))
        by true gone more = more
        by false gone more =
            All-cons Now (line_item b (moved f ss n (tidy f ss n sound right above) b block found front) (line_with (placed 0 ss) (behind_lines (placed 0 ss) start front) l)) (lines_from b (suc (moved f ss n (tidy f ss n sound right above) b block found front)) (without_slots (placed 0 ss) (behind_line (placed 0 ss) l (behind_lines (placed 0 ss) start front)) ls))
            (by_use front ls l (line_with (placed 0 ss) (behind_lines (placed 0 ss) start front) l) is at_l (behind_lines (placed 0 ss) start front) good (use_of (placed 0 ss) l.local l.instr)
            (fits_at f ss n sound right b block found (length front) l at_l)
            (put_is (placed 0 ss) (behind_lines (placed 0 ss) start front) l.local l.instr [] ∙ ap (λ (t : Bool). if t then [] else line_with (placed 0 ss) (behind_lines (placed 0 ss) start front) l ∷ []) gone))
            more

  -- ---- what is taken at the ends of blocks

  end_there : (k : ℕ) (c : Block) → slice_get f.blocks k ≡ Some c → (o : Operand) → IsKept keeps o → IsThereAtEnd f k o → IsThereAtEnd g k o
  end_there k c at_k (Local x) kept h =
      subst (λ (j : ℕ). AvailableAt g k j x) (sym (ap line_count (found_new f ss n (tidy f ss n sound right above) k c at_k)))
      (keep_there f ss n sound right above k c at_k c.lines [] (sym (append-nil c.lines)) (Local x) kept (subst (λ (j : ℕ). AvailableAt f k j x) (ap line_count at_k) h))
  end_there k c at_k (Number width bits) kept h = tt
  end_there k c at_k Null kept h = tt
  end_there k c at_k (Poison reg) kept h = tt
  end_there k c at_k (Named symbol offset) kept h = tt

  good_at_end : (p : ℕ) (c : Block) (at_p : slice_get f.blocks p ≡ Some c) (o : Operand) → IsThere g p (moved f ss n (tidy f ss n sound right above) p c at_p c.lines) o → IsThereAtEnd g p o
  good_at_end p c at_p (Local x) h = subst (λ (j : ℕ). AvailableAt g p j x) (sym (ap line_count (found_new f ss n (tidy f ss n sound right above) p c at_p))) h
  good_at_end p c at_p (Number width bits) h = tt
  good_at_end p c at_p Null h = tt
  good_at_end p c at_p (Poison reg) h = tt
  good_at_end p c at_p (Named symbol offset) h = tt

  block_of : (m : ℕ) → IsBlock f m → (c : Block) × (slice_get f.blocks (place f.blocks m) ≡ Some c)
  block_of m h = block_held f.blocks m h

  -- ---- phis

  old_entries : (reg : Reg) (es : List Incoming) → EdgesKept keeps es → All (ArgumentFormed f) (taken_as reg es) → All (HasType f) (taken_as reg es) → All (λ e. IsBlock f e.from) es → All (λ e. IsThereAtEnd f (place f.blocks e.from) e.value) es
      → All (ArgumentFormed g) (taken_as reg es) × All (HasType g) (taken_as reg es) × All (λ e. IsBlock g e.from) es × All (λ e. IsThereAtEnd g (place g.blocks e.from) e.value) es
  old_entries reg [] kept formed types blocks there = (All-nil (ArgumentFormed g), All-nil (HasType g), All-nil (λ e. IsBlock g e.from), All-nil (λ e. IsThereAtEnd g (place g.blocks e.from) e.value))
  old_entries reg (e ∷ es) kept formed types blocks there =
      by (old_entries reg es kept.1 (All-tail (ArgumentFormed f) (typed reg e.value) (taken_as reg es) formed) (All-tail (HasType f) (typed reg e.value) (taken_as reg es) types) (All-tail (λ e. IsBlock f e.from) e es blocks) (All-tail (λ e. IsThereAtEnd f (place f.blocks e.from) e.value) e es there))
      (block_of e.from (All-head (λ e. IsBlock f e.from) e es blocks))
    where
      old_formed : ArgumentFormed f (typed reg e.value)
      old_formed = All-head (ArgumentFormed f) (typed reg e.value) (taken_as reg es) formed

      by : All (ArgumentFormed g) (taken_as reg es) × All (HasType g) (taken_as reg es) × All (λ e. IsBlock g e.from) es × All (λ e. IsThereAtEnd g (place g.blocks e.from) e.value) es
          → (c : Block) × (slice_get f.blocks (place f.blocks e.from) ≡ Some c)
          → All (ArgumentFormed g) (taken_as reg (e ∷ es)) × All (HasType g) (taken_as reg (e ∷ es)) × All (λ e. IsBlock g e.from) (e ∷ es) × All (λ e. IsThereAtEnd g (place g.blocks e.from) e.value) (e ∷ es)
      by more (c, at_c) = (
        All-cons (ArgumentFormed g) (typed reg e.value) (taken_as reg es) (old_formed.0, keep_formed f ss n sound right above e.value kept.0 old_formed.1) more.0,
        All-cons (HasType g) (typed reg e.value) (taken_as reg es) (keep_type f ss n sound right above e.value reg kept.0 (All-head (HasType f) (typed reg e.value) (taken_as reg es) types)) more.1,
        All-cons (λ e. IsBlock g e.from) e es (block_there e.from (All-head (λ e. IsBlock f e.from) e es blocks)) more.2,
        All-cons (λ e. IsThereAtEnd g (place g.blocks e.from) e.value) e es
            (subst (λ (k : ℕ). IsThereAtEnd g k e.value) (sym (place_stays f ss n e.from)) (end_there (place f.blocks e.from) c at_c e.value kept.0 (All-head (λ e. IsThereAtEnd f (place f.blocks e.from) e.value) e es there)))
            more.3,
      )

  phi_now : (b : ℕ) (p : Phi) → IsReg p.reg → All (ArgumentFormed g) (taken_as p.reg p.incoming) → All (HasType g) (taken_as p.reg p.incoming) → All (λ e. IsBlock g e.from) p.incoming → All (λ e. IsThereAtEnd g (place g.blocks e.from) e.value) p.incoming
      → OnEdges g b p.incoming → (b ≡ 0 → ⊥) → Now (phi_item b p)
  phi_now b p is_reg formed types blocks there on_edges other = (record { operands = formed; sources = blocks; kind = is_reg }, keeps_rule)
    where
      keeps_rule : (rule : Rule) → Keeps g rule (phi_item b p)
      keeps_rule TypeMismatch = (types, tt)
      keeps_rule NotAvailable = (tt, there)
      keeps_rule PhiEdges = on_edges
      keeps_rule PhiPlace = other
      keeps_rule EntryBranch = tt
      keeps_rule Index = tt
      keeps_rule Cast = tt
      keeps_rule CaseTwice = tt

  old_on_edges : (b : ℕ) (es : List Incoming) → OnEdges f b es → OnEdges g b es
  old_on_edges b es h = record {
    each = λ p. (λ i. count_by (λ e. nat_eq (place_stays f ss n e.from i) p) es) ∙ h.each p ∙ ap (count_by (λ q. nat_eq q p)) (sym (edges_stay f ss n b));
    equal = h.equal;
  }

  old_phis : (b : ℕ) (ps : List Phi) → ((x : ℕ) → is_there (placed 0 ss x) ≡ true → is_accessed_as (regs (placed 0 ss) x) x (phi_uses ps) ≡ true) → All Was (map (phi_item b) ps) → All Now (map (phi_item b) ps)
  old_phis b [] fit h = All-nil Now
  old_phis b (p ∷ ps) fit h =
      All-cons Now (phi_item b p) (map (phi_item b) ps) (by (old_entries p.reg p.incoming kept w.0.operands (w.1 TypeMismatch).0 w.0.sources (w.1 NotAvailable).1))
      (old_phis b ps (λ x s. used_back (regs (placed 0 ss) x) x (entry_uses p.incoming) (phi_uses ps) (fit x s)) (All-tail Was (phi_item b p) (map (phi_item b) ps) h))
    where
      w : Was (phi_item b p)
      w = All-head Was (phi_item b p) (map (phi_item b) ps) h

      kept : EdgesKept keeps p.incoming
      kept = kept_entries f ss n sound right p.reg p.incoming (λ x s. used_front (regs (placed 0 ss) x) x (entry_uses p.incoming) (phi_uses ps) (fit x s)) w.0.operands

      by : All (ArgumentFormed g) (taken_as p.reg p.incoming) × All (HasType g) (taken_as p.reg p.incoming) × All (λ e. IsBlock g e.from) p.incoming × All (λ e. IsThereAtEnd g (place g.blocks e.from) e.value) p.incoming → Now (phi_item b p)
      by (formed, types, blocks, there) = phi_now b p w.0.kind formed types blocks there (old_on_edges b p.incoming (w.1 PhiEdges)) (w.1 PhiPlace)

  -- ---- new phis

  d : Distinct (numbers_in f.blocks)
  d = apart f sound.formed

  record Source (p : ℕ) : Type 0 where
    block : Block
    found : slice_get f.blocks p ≡ Some block
    named : IsBlock f block.number
    number : (end_at f ss n p).number ≡ block.number
    values : AllGood f ss n sound right above p (moved f ss n (tidy f ss n sound right above) p block found block.lines) ((end_at f ss n p).values)

  source_of : (q p : ℕ) → Among p (edges f q) → Source p
  source_of q p among = by (there_block f.blocks p (edge-from f q p among))
    where
      by : (c : Block) × (slice_get f.blocks p ≡ Some c) → Source p
      by (c, at_p) = record {
        block = c;
        found = at_p;
        named = number_held f.blocks p c at_p;
        number = ap (λ (o : Option Block). (end_with (placed 0 ss) (first_at f ss n p) o).number) at_p;
        values = subst (AllGood f ss n sound right above p (moved f ss n (tidy f ss n sound right above) p c at_p c.lines)) (sym (ap (λ (o : Option Block). (end_with (placed 0 ss) (first_at f ss n p) o).values) at_p)) (end_good f ss n sound right above p c at_p);
      }

  source_place : (p : ℕ) → (s : Source p) → place g.blocks (end_at f ss n p).number ≡ p
  source_place p s = place_stays f ss n (end_at f ss n p).number ∙ ap (place f.blocks) s.number ∙ place_is f.blocks d p s.block s.found

  new_entries : (q x : ℕ) (reg : Reg) → IsReg reg → is_there (placed 0 ss x) ≡ true → regs (placed 0 ss) x ≡ reg → (from : List ℕ) → ((p : ℕ) → Among p from → Among p (edges f q))
      → All (ArgumentFormed g) (taken_as reg (entries_of (end_at f ss n) x from)) × All (HasType g) (taken_as reg (entries_of (end_at f ss n) x from)) × All (λ e. IsBlock g e.from) (entries_of (end_at f ss n) x from)
      × All (λ e. IsThereAtEnd g (place g.blocks e.from) e.value) (entries_of (end_at f ss n) x from)
  new_entries q x reg is_reg slot reg_is [] inside = (All-nil (ArgumentFormed g), All-nil (HasType g), All-nil (λ e. IsBlock g e.from), All-nil (λ e. IsThereAtEnd g (place g.blocks e.from) e.value))
  new_entries q x reg is_reg slot reg_is (p ∷ from) inside = by (new_entries q x reg is_reg slot reg_is from (λ r among. inside r (inr among))) (source_of q p (inside p (inl refl)))
    where
      by : All (ArgumentFormed g) (taken_as reg (entries_of (end_at f ss n) x from)) × All (HasType g) (taken_as reg (entries_of (end_at f ss n) x from)) × All (λ e. IsBlock g e.from) (entries_of (end_at f ss n) x from) × All (λ e. IsThereAtEnd g (place g.blocks e.from) e.value) (entries_of (end_at f ss n) x from)
          → Source p
          → All (ArgumentFormed g) (taken_as reg (entries_of (end_at f ss n) x (p ∷ from))) × All (HasType g) (taken_as reg (entries_of (end_at f ss n) x (p ∷ from))) × All (λ e. IsBlock g e.from) (entries_of (end_at f ss n) x (p ∷ from)) × All (λ e. IsThereAtEnd g (place g.blocks e.from) e.value) (entries_of (end_at f ss n) x (p ∷ from))
      by more s =
          let good : Good f ss n sound right above p (moved f ss n (tidy f ss n sound right above) p s.block s.found s.block.lines) (regs (placed 0 ss) x) ((end_at f ss n p).values x) = s.values x slot in (
            All-cons (ArgumentFormed g) (typed reg ((end_at f ss n p).values x)) (taken_as reg (entries_of (end_at f ss n) x from)) (is_reg, good.formed) more.0,
            All-cons (HasType g) (typed reg ((end_at f ss n p).values x)) (taken_as reg (entries_of (end_at f ss n) x from)) (good.has_type ∙ ap (λ (r : Reg). Some r) reg_is) more.1,
            All-cons (λ e. IsBlock g e.from) (entry_of x (end_at f ss n p)) (entries_of (end_at f ss n) x from) (block_there (end_at f ss n p).number (subst (IsBlock f) (sym s.number) s.named)) more.2,
            All-cons (λ e. IsThereAtEnd g (place g.blocks e.from) e.value) (entry_of x (end_at f ss n p)) (entries_of (end_at f ss n) x from)
                (subst (λ (k : ℕ). IsThereAtEnd g k ((end_at f ss n p).values x)) (sym (source_place p s)) (good_at_end p s.block s.found ((end_at f ss n p).values x) good.there)) more.3,
          )

  new_on_edges : (b x : ℕ) → OnEdges g b (entries_of (end_at f ss n) x (edges f b))
  new_on_edges b x = record {
    each = λ q. counted (place g.blocks) (end_at f ss n) x q (edges f b) (λ p among. source_place p (source_of b p among)) ∙ ap (count_by (λ r. nat_eq r q)) (sym (edges_stay f ss n b));
    equal = λ i j e c at_i at_j same. by e c same (entry_from (end_at f ss n) x (edges f b) i e at_i) (entry_from (end_at f ss n) x (edges f b) j c at_j);
  }
    where
      by : (e c : Incoming) → e.from ≡ c.from → (p : ℕ) × Among p (edges f b) × (entry_of x (end_at f ss n p) ≡ e) → (p : ℕ) × Among p (edges f b) × (entry_of x (end_at f ss n p) ≡ c) → e.value ≡ c.value
      by e c same (p, among, is) (r, also, was) =
          let numbers_same : (end_at f ss n p).number ≡ (end_at f ss n r).number = ap (λ (y : Incoming). y.from) is ∙ same ∙ sym (ap (λ (y : Incoming). y.from) was) in
          let places : p ≡ r = sym (source_place p (source_of b p among)) ∙ ap (place g.blocks) numbers_same ∙ source_place r (source_of b r also) in
          sym (ap (λ (y : Incoming). y.value) is) ∙ ap (λ (k : ℕ). (end_at f ss n k).values x) places ∙ ap (λ (y : Incoming). y.value) was

  -- a slot among these has its own type, wherever it stands
  slot_type : (i : ℕ) (s : Slot) → slice_get ss i ≡ Some s → regs (placed 0 ss) s.local ≡ s.reg
  slot_type i s at_i =
      let slot : is_there (placed 0 ss s.local) ≡ true = placed_has 0 ss i s at_i in
      let m : Made f s = (right i s at_i).made in
      let given : Gives f s.local m.block_place m.line_place m.block m.line = record { in_function = m.in_function; in_block = m.in_block; local = m.local } in
      let h : (shape : Form) × (align : ℕ) × (m.line.instr ≡ kind.Alloca shape align) × (scalar shape ≡ Some (regs (placed 0 ss) s.local)) = made_here f ss n sound right s.local m.block_place m.line_place m.block m.line slot given in
      let both : kind.Alloca h.0 h.1 ≡ kind.Alloca m.shape m.align = sym h.2 ∙ m.instr in
      let same : h.0 ≡ m.shape = cc both in
      let types : Some (regs (placed 0 ss) s.local) ≡ Some s.reg = sym h.3 ∙ ap scalar same ∙ m.scalar_is in
      cc types

  slot_reg : (i : ℕ) (s : Slot) → slice_get ss i ≡ Some s → IsReg s.reg
  slot_reg i s at_i =
      let slot : is_there (placed 0 ss s.local) ≡ true = placed_has 0 ss i s at_i in
      subst IsReg (slot_type i s at_i) (scalar_reg (made_slot f ss n sound right s.local slot).shape (regs (placed 0 ss) s.local) (slot_stored f ss n sound right s.local slot) (made_slot f ss n sound right s.local slot).scalar_is)

  new_phi : (b k i : ℕ) (s : Slot) → slice_get ss i ≡ Some s → (b ≡ 0 → ⊥) → Now (phi_item b (record { local = k; reg = s.reg; incoming = entries_of (end_at f ss n) s.local (edges f b) }))
  new_phi b k i s at_i other = by (new_entries b s.local s.reg (slot_reg i s at_i) (placed_has 0 ss i s at_i) (slot_type i s at_i) (edges f b) (λ p among. among))
    where
      by : All (ArgumentFormed g) (taken_as s.reg (entries_of (end_at f ss n) s.local (edges f b))) × All (HasType g) (taken_as s.reg (entries_of (end_at f ss n) s.local (edges f b))) × All (λ e. IsBlock g e.from) (entries_of (end_at f ss n) s.local (edges f b))
          × All (λ e. IsThereAtEnd g (place g.blocks e.from) e.value) (entries_of (end_at f ss n) s.local (edges f b)) → Now (phi_item b (record { local = k; reg = s.reg; incoming = entries_of (end_at f ss n) s.local (edges f b) }))
      by (formed, types, blocks, there) = phi_now b (record { local = k; reg = s.reg; incoming = entries_of (end_at f ss n) s.local (edges f b) }) (slot_reg i s at_i) formed types blocks there (new_on_edges b s.local) other

  phis_from_now : (b k j : ℕ) (rest : List Slot) → ((i : ℕ) → slice_get ss (j + i) ≡ slice_get rest i) → (b ≡ 0 → ⊥) → All Now (map (phi_item b) (phis_from (end_at f ss n) (edges f b) k rest))
  phis_from_now b k j [] same other = All-nil Now
  phis_from_now b k j (s ∷ rest) same other =
      All-cons Now (phi_item b (record { local = k; reg = s.reg; incoming = entries_of (end_at f ss n) s.local (edges f b) })) (map (phi_item b) (phis_from (end_at f ss n) (edges f b) (suc k) rest))
      (new_phi b k j s (ap (slice_get ss) (omega arith) ∙ same 0) other) (phis_from_now b (suc k) (suc j) rest (λ i. ap (slice_get ss) (omega arith) ∙ same (suc i)) other)

  news_now : (b : ℕ) → All Now (map (phi_item b) (news f ss n b))
  news_now b = by (takes b (edges f b)) refl
    where
      by : (t : Bool) → takes b (edges f b) ≡ t → All Now (map (phi_item b) (new_phis (end_at f ss n) (edges f b) (if t then Some (free (edges f) (length ss) n b) else None) ss))
      by true h = phis_from_now b (free (edges f) (length ss) n b) 0 ss (λ i. ap (slice_get ss) (omega arith)) (takes_not_entry b (edges f b) h)
      by false h = All-nil Now

  -- ---- terminators

  end_types : (t : Terminator) → EndTypes f t → EndTypes g t
  end_types (Return argument) h = h
  end_types (Jump target) h = h
  end_types (Branch condition if_true if_false) h = h
  end_types (Switch width value default cases) h = h
  end_types Unreachable h = h

  end_now : (b : ℕ) (block : Block) → slice_get f.blocks b ≡ Some block → Was (end_item b block.end) → Now (end_item b block.end)
  end_now b block found w = (
    record { operands = λ k d lt. (new k d lt).formed; sources = All-nil (λ e. IsBlock g e.from); kind = (w.0.kind.0, λ k d lt. block_there (get_or (successors block.end) k d) (w.0.kind.1 k d lt)) },
    keeps_rule,
  )
    where
      kept : Kept keeps (end_reads block.end)
      kept =
          kept_last keeps block.end
          (kept_end f ss n sound right block.end (λ x s. used_in_end (regs (placed 0 ss) x) x block (used_in_block (regs (placed 0 ss) x) x b f.blocks block found (slot_accessed f ss n sound right x s))) w.0.operands)

      new : All (New (IsThereAtEnd g b)) (end_reads block.end)
      new = carry (IsThereAtEnd f b) (IsThereAtEnd g b) (λ o k h. end_there b block found o k h) (end_reads block.end) kept w.0.operands (w.1 TypeMismatch).0 (w.1 NotAvailable).0

      keeps_rule : (rule : Rule) → Keeps g rule (end_item b block.end)
      keeps_rule TypeMismatch = (λ k d lt. (new k d lt).typed_as, end_types block.end (w.1 TypeMismatch).1)
      keeps_rule NotAvailable = (λ k d lt. (new k d lt).found, All-nil (λ e. IsThereAtEnd g (place g.blocks e.from) e.value))
      keeps_rule PhiEdges = tt
      keeps_rule PhiPlace = tt
      keeps_rule EntryBranch = λ k d lt here. w.1 EntryBranch k d lt (sym (place_stays f ss n (get_or (successors block.end) k d)) ∙ here)
      keeps_rule Index = tt
      keeps_rule Cast = tt
      keeps_rule CaseTwice = w.1 CaseTwice

  -- ---- blocks

  both_phis : (b : ℕ) (ns ps : List Phi) → All Now (map (phi_item b) ns) → All Now (map (phi_item b) ps) → All Now (map (phi_item b) (ns ++ ps))
  both_phis b [] ps h g' = g'
  both_phis b (p ∷ ns) ps h g' =
      All-cons Now (phi_item b p) (map (phi_item b) (ns ++ ps)) (All-head Now (phi_item b p) (map (phi_item b) ns) h) (both_phis b ns ps (All-tail Now (phi_item b p) (map (phi_item b) ns) h) g')

  block_now : (b : ℕ) (block : Block) → slice_get f.blocks b ≡ Some block → All Now (block_items b (promoted_at f ss n b block))
  block_now b block found =
      All-append Now (map (phi_item b) (promoted_at f ss n b block).phis) (lines_from b 0 (promoted_at f ss n b block).lines ++ end_item b block.end ∷ [])
      (both_phis b (news f ss n b) block.phis (news_now b)
      (old_phis b block.phis (λ x s. used_in_phis (regs (placed 0 ss) x) x block (used_in_block (regs (placed 0 ss) x) x b f.blocks block found (slot_accessed f ss n sound right x s))) (in_phis Was b block items_of)))
      (All-append Now (lines_from b 0 (promoted_at f ss n b block).lines) (end_item b block.end ∷ [])
      (lines_now b block found [] block.lines refl (first_good f ss n sound right above b block found))
      (All-cons Now (end_item b block.end) [] (end_now b block found (in_end Was b block items_of)) (All-nil Now)))
    where
      items_of : All Was (block_items b block)
      items_of = in_block Was f b block found was

  blocks_now : (s : ℕ) (bs : List Block) → ((i : ℕ) → slice_get f.blocks (s + i) ≡ slice_get bs i) → All Now (items_from s (promoted_from f ss n s bs))
  blocks_now s [] same = All-nil Now
  blocks_now s (b ∷ bs) same =
      All-append Now (block_items s (promoted_at f ss n s b)) (items_from (suc s) (promoted_from f ss n (suc s) bs))
      (block_now s b (ap (slice_get f.blocks) (omega arith) ∙ same 0)) (blocks_now (suc s) bs (λ i. ap (slice_get f.blocks) (omega arith) ∙ same (suc i)))

  items_now : All Now (items g)
  items_now = blocks_now 0 f.blocks (λ i. ap (slice_get f.blocks) (omega arith))

  none_left : (bs : List Block) → promoted_from f ss n 0 bs ≡ [] → bs ≡ []
  none_left [] e = refl
  none_left (x ∷ bs) e = absurd cc

  sound_promoted : Sound g
  sound_promoted = record {
    formed = record {
      result = sound.formed.result;
      params = sound.formed.params;
      once = once_stays f ss n sound.formed above;
      items = λ k d lt. (items_now k d lt).0;
      declared = λ none. sound.formed.declared (none_left f.blocks none);
    };
    rules = λ rule. λ k d lt. (items_now k d lt).1 rule;
  }

pub is_sound : PromotedIsSound
is_sound f sound = sound_promoted f (promoted_slots f) (next_number f) sound (are_right f) (omega arith)
