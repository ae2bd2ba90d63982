-- A sound function is sound without the blocks that aren't reached.
use Rattle.std.proofs.Common.{◌≡◌, ℕ, suc, ◌+◌, ◌≤◌, ◌<◌, nat_eq, Bool, true, false, cond, List, [], ◌∷◌, ◌++◌, Option, Some, None, map, length, refl, sym, ◌∙◌, ap, subst, arith, if◌then◌else◌, append-nil}
use Rattle.std.specs.Prelude.{All, count_by, flat_map, option_map, slice_get}
use Rattle.std.proofs.lemmas.Bool.{eqb-true, ne_eqb}
use Rattle.std.proofs.lemmas.List.Elements.{All-append, All-cons, All-head, All-map, All-nil, All-tail, All-weaker}
use Rattle.std.proofs.lemmas.List.Recursion.{is_count_by}
use Rattle.std.proofs.lemmas.Option.{slice_get-map}
use Rattle.ir_tree.specs.Flow.{definitions, edges, holds, locals, parameters, successors}
use Rattle.ir_tree.specs.Formed.{ArgumentFormed, IsBlock, ItemFormed, OperandFormed, numbers}
use Rattle.ir_tree.specs.Items.{Item, phi_item, line_item, end_item, block_items, end_reads, items, items_from, lines_from, phi_reads, reads, typed}
use Rattle.ir_tree.specs.Rules.{EndTypes, HasType, IsNoPhi, IsThere, IsThereAtEnd, Keeps as KeepsRule, OnEdges, Sound, Typing, block_typings, place, type_of}
use Rattle.ir_tree.specs.declared.block.Block.{Block}
use Rattle.ir_tree.specs.declared.block.Terminator.{Terminator}
use Rattle.ir_tree.specs.declared.block.Terminator.TheVariants.{Branch, Jump, Return, Switch, Unreachable}
use Rattle.ir_tree.specs.declared.function.Function.{Function}
use Rattle.ir_tree.specs.declared.instr.Incoming.{Incoming}
use Rattle.ir_tree.specs.declared.instr.Line.{Line}
use Rattle.ir_tree.specs.declared.instr.Phi.{Phi}
use Rattle.ir_tree.specs.declared.operand.Argument.{Argument}
use Rattle.ir_tree.specs.declared.operand.Operand.{Operand}
use Rattle.ir_tree.specs.declared.operand.Operand.TheVariants as operand
use Rattle.ir_tree.specs.declared.operand.Reg.{Reg}
use Rattle.ir_tree.specs.declared.rule.Rule.{Rule}
use Rattle.ir_tree.specs.declared.rule.Rule.TheVariants.{TypeMismatch, NotAvailable, PhiEdges, PhiPlace, EntryBranch, Index, Cast, CaseTwice}
use Rattle.ir_edit.proofs.Tally.{tally, tally_both, tally_once}
use Rattle.ir_meaning.specs.Counted.{times}
use Rattle.ir_meaning.proofs.Counting.{among_times, edges_from, number_at, out_to, times_is}
use Rattle.ir_meaning.proofs.Entries.{by_number, entries_of}
use Rattle.ir_meaning.proofs.Everywhere.{all_back, all_front, all_of_times, all_among, all_unmapped}
use Rattle.block_trim.specs.Laws.{TrimIsSound}
use Rattle.block_trim.specs.Trimmed.{AreReached, IsReached, block_in, blocks_in, entries_in, phi_in, trimmed}
use Rattle.block_trim.proofs.Members.{counted_of, holds_at, place_of}
use Rattle.block_trim.proofs.TrimKept.{Keeps, available_at_end_stays, available_at_stays, differ, differ_still, kept_at, kept_from, local_at_end, local_there, new_place, old_place, once_stays, same_entry}
use Rattle.block_trim.proofs.TrimPlaces.{defined_less, reached_entries, types_stay, typing_front, was_there}
use Rattle.ir_meaning.proofs.NoPhis.{no_edges, no_phi_reads, no_taken}

module _ (f : Function) (reached : ℕ → Bool) (are : AreReached f reached) (sound : Sound f) where
  abbrev g : Function
  g = trimmed reached f

  -- the block at its old and its new place
  abbrev Stays : ℕ → ℕ → Block → Type 0
  Stays i j b = Keeps f reached are sound.formed i j b

  -- ---- what holds of an item

  abbrev Was : Item → Type 0
  Was item = ItemFormed f item × ((rule : Rule) → KeepsRule f rule item)

  abbrev Now : Item → Type 0
  Now item = ItemFormed g item × ((rule : Rule) → KeepsRule g rule item)

  -- ---- operands

  -- no block that stays lost a local that is defined there
  none_lost : (x : ℕ) → holds (locals g) x ≡ true → tally x (flat_map definitions f.blocks) ≡ tally x (flat_map definitions (blocks_in reached f.blocks))
  none_lost x local =
      let a : tally x (locals f) ≡ tally x (parameters f) + tally x (flat_map definitions f.blocks) = tally_both x (parameters f) (flat_map definitions f.blocks) in
      let b : tally x (locals g) ≡ tally x (parameters f) + tally x (flat_map definitions (blocks_in reached f.blocks)) = tally_both x (parameters f) (flat_map definitions (blocks_in reached f.blocks)) in
      let c : tally x (locals f ++ numbers f) ≡ tally x (locals f) + tally x (numbers f) = tally_both x (locals f) (numbers f) in
      let once : tally x (locals f ++ numbers f) ≤ 1 = tally_once x (locals f ++ numbers f) sound.formed.once in
      let some : 1 ≤ tally x (locals g) = counted_of x (locals g) local in
      let less : tally x (flat_map definitions (blocks_in reached f.blocks)) ≤ tally x (flat_map definitions f.blocks) = defined_less reached x f.blocks in
      omega (arith, a, b, c, once, some, less)

  -- the operand is formed, and has its type
  abbrev IsOk : Operand → Type 0
  IsOk o = OperandFormed g o × (type_of g o ≡ type_of f o)

  local_ok : (x : ℕ) → holds (locals g) x ≡ true → IsOk (operand.Local x)
  local_ok x local = (
    local,
    typing_front x (map {B = Typing} (λ p. (p.local, Some p.reg)) f.params) (flat_map block_typings (blocks_in reached f.blocks)) (flat_map block_typings f.blocks) (types_stay reached x f.blocks (none_lost x local)),
  )

  read_ok : (i j : ℕ) (b : Block) → Stays i j b → (n : ℕ) (o : Operand) → OperandFormed f o → IsThere f i n o → IsOk o × IsThere g j n o
  read_ok i j b k n (operand.Local x) formed h = (local_ok x (local_there f reached are sound.formed i j b k n x h), available_at_stays f reached are sound.formed i j b k n x h)
  read_ok i j b k n (operand.Number width bits) formed h = ((formed, refl), tt)
  read_ok i j b k n operand.Null formed h = ((formed, refl), tt)
  read_ok i j b k n (operand.Poison reg) formed h = ((formed, refl), tt)
  read_ok i j b k n (operand.Symbol symbol offset) formed h = ((formed, refl), tt)

  end_ok : (i j : ℕ) (b : Block) → Stays i j b → (o : Operand) → OperandFormed f o → IsThereAtEnd f i o → IsOk o × IsThereAtEnd g j o
  end_ok i j b k (operand.Local x) formed h = (local_ok x (local_at_end f reached are sound.formed i j b k x h), available_at_end_stays f reached are sound.formed i j b k x h)
  end_ok i j b k (operand.Number width bits) formed h = ((formed, refl), tt)
  end_ok i j b k operand.Null formed h = ((formed, refl), tt)
  end_ok i j b k (operand.Poison reg) formed h = ((formed, refl), tt)
  end_ok i j b k (operand.Symbol symbol offset) formed h = ((formed, refl), tt)

  -- an argument, formed, of its type, and there
  abbrev Asked : (Operand → Type 0) → Argument → Type 0
  Asked there a = ArgumentFormed f a × (HasType f a × there a.operand)

  abbrev Given : (Operand → Type 0) → Argument → Type 0
  Given there a = ArgumentFormed g a × (HasType g a × there a.operand)

  given : (old new : Operand → Type 0) → ((o : Operand) → OperandFormed f o → old o → IsOk o × new o) → (a : Argument) → Asked old a → Given new a
  given old new step a (formed, (types, there)) =
      let ok : IsOk a.operand × new a.operand = step a.operand formed.1 there in
      ((formed.0, ok.0.0), (ok.0.1 ∙ types, ok.1))

  asked : (there : Operand → Type 0) (as' : List Argument) → All (ArgumentFormed f) as' → All (HasType f) as' → All (λ a. there a.operand) as' → All (Asked there) as'
  asked there as' a b c = λ k d lt. (a k d lt, (b k d lt, c k d lt))

  all_given : (old new : Operand → Type 0) → ((o : Operand) → OperandFormed f o → old o → IsOk o × new o) → (as' : List Argument) → All (Asked old) as' → All (Given new) as'
  all_given old new step as' h = All-weaker (Asked old) (Given new) (given old new step) as' h

  -- ---- blocks that are named

  named_kept : (n : ℕ) → reached n ≡ true → (i : ℕ) × (j : ℕ) × (b : Block) × (b.number ≡ n) × Stays i j b
  named_kept n r = by ((are n).0 r)
    where
      by : IsReached f n → (i : ℕ) × (j : ℕ) × (b : Block) × (b.number ≡ n) × Stays i j b
      by (i, b, at, number, path) =
          let k : (j : ℕ) × Stays i j b = kept_from f reached are sound.formed i b at (ap reached number ∙ r) in
          (i, k.0, b, number, k.1)

  named_there : (n : ℕ) → reached n ≡ true → IsBlock g n
  named_there n r = by (named_kept n r)
    where
      by : (i : ℕ) × (j : ℕ) × (b : Block) × (b.number ≡ n) × Stays i j b → IsBlock g n
      by (i, j, b, number, k) = holds_at n (numbers g) j (number_at g.blocks j (block_in reached b) k.new ∙ ap (λ (m : ℕ). Some m) number)

  block_of : (n : ℕ) → IsBlock f n → (r : ℕ) × (z : Block) × (slice_get f.blocks r ≡ Some z) × (z.number ≡ n)
  block_of n h = by (place_of n (numbers f) h)
    where
      from : (r : ℕ) (o : Option Block) → slice_get f.blocks r ≡ o → slice_get (numbers f) r ≡ Some n → (r : ℕ) × (z : Block) × (slice_get f.blocks r ≡ Some z) × (z.number ≡ n)
      from r None e at = let none : None ≡ Some n = sym (slice_get-map (λ (b : Block). b.number) f.blocks r ∙ ap (option_map (λ (b : Block). b.number)) e) ∙ at in absurd (cc none)
      from r (Some z) e at = let same : Some z.number ≡ Some n = sym (number_at f.blocks r z e) ∙ at in (r, z, e, cc same)

      by : (r : ℕ) × (slice_get (numbers f) r ≡ Some n) → (r : ℕ) × (z : Block) × (slice_get f.blocks r ≡ Some z) × (z.number ≡ n)
      by (r, at) = from r (slice_get f.blocks r) refl at

  -- a block to which one that stays leads is reached
  target_reached : (i j : ℕ) (b : Block) → Stays i j b → (n : ℕ) → IsBlock f n → 1 ≤ times n (successors b.end) → reached n ≡ true
  target_reached i j b k n block some = by (block_of n block)
    where
      by : (r : ℕ) × (z : Block) × (slice_get f.blocks r ≡ Some z) × (z.number ≡ n) → reached n ≡ true
      by (r, z, at, number) =
          let many : times i (edges f r) ≡ times n (successors b.end) = edges_from f r z at i ∙ ap (out_to z.number) k.old ∙ ap (λ (m : ℕ). times m (successors b.end)) number in
          (are n).1 (r, z, at, number, (i ∷ k.path.0, (among_times i (edges f r) (omega (arith, many, some)), k.path.1)))

  -- ---- entries of phis

  abbrev Taken : Reg → Incoming → Type 0
  Taken reg e = Asked (IsThereAtEnd f (place f.blocks e.from)) (typed reg e.value)

  abbrev Takes : Reg → Incoming → Type 0
  Takes reg e = Given (IsThereAtEnd g (place g.blocks e.from)) (typed reg e.value) × IsBlock g e.from

  entry_given : (reg : Reg) (e : Incoming) → reached e.from ≡ true → Taken reg e → Takes reg e
  entry_given reg e r h = by (named_kept e.from r)
    where
      by : (i : ℕ) × (j : ℕ) × (b : Block) × (b.number ≡ e.from) × Stays i j b → Takes reg e
      by (i, j, b, number, k) =
          let old : place f.blocks e.from ≡ i = ap (place f.blocks) (sym number) ∙ old_place f reached are sound.formed i j b k in
          let new : place g.blocks e.from ≡ j = ap (place g.blocks) (sym number) ∙ new_place f reached are sound.formed i j b k in
          let was : Asked (IsThereAtEnd f i) (typed reg e.value) = subst (λ (n : ℕ). Asked (IsThereAtEnd f n) (typed reg e.value)) old h in
          (subst (λ (n : ℕ). Given (IsThereAtEnd g n) (typed reg e.value)) (sym new) (given (IsThereAtEnd f i) (IsThereAtEnd g j) (end_ok i j b k) (typed reg e.value) was), named_there e.from r)

  entries_all : (P Q : Incoming → Type 0) → ((e : Incoming) → reached e.from ≡ true → P e → Q e) → (es : List Incoming) → All P es → All Q (entries_in reached es)
  entries_all P Q step [] h = All-nil Q
  entries_all P Q step (e ∷ es) h = by (reached e.from) refl (entries_all P Q step es (All-tail P e es h))
    where
      by : (t : Bool) → reached e.from ≡ t → All Q (entries_in reached es) → All Q (if t then e ∷ entries_in reached es else entries_in reached es)
      by true r more = All-cons Q e (entries_in reached es) (step e r (All-head P e es h)) more
      by false r more = more

  phi_takes : (i : ℕ) (p : Phi) → Was (phi_item i p) → All (Takes p.reg) (entries_in reached p.incoming)
  phi_takes i p h =
      let formed : All (λ e. ArgumentFormed f (typed p.reg e.value)) p.incoming = all_unmapped (ArgumentFormed f) (λ e. typed p.reg e.value) p.incoming h.0.operands in
      let types : All (λ e. HasType f (typed p.reg e.value)) p.incoming = all_unmapped (HasType f) (λ e. typed p.reg e.value) p.incoming (h.1 TypeMismatch).0 in
      let there : All (λ e. IsThereAtEnd f (place f.blocks e.from) e.value) p.incoming = (h.1 NotAvailable).1 in
      entries_all (Taken p.reg) (Takes p.reg) (entry_given p.reg) p.incoming (λ k d lt. (formed k d lt, (types k d lt, there k d lt)))

  -- ---- as many entries as edges

  abbrev count : ℕ → List Incoming → ℕ
  count q [] = 0
  count q (e ∷ es) = cond (nat_eq (place g.blocks e.from) q) (1 + count q es) (count q es)

  counts_nothing : (q : ℕ) → slice_get g.blocks q ≡ None → (es : List Incoming) → count_by (λ e. nat_eq (place g.blocks e.from) q) (entries_in reached es) ≡ 0
  counts_nothing q none es = sym (is_count_by (count q) (λ e. nat_eq (place g.blocks e.from) q) refl (λ x xs. refl) (entries_in reached es)) ∙ zero_of es
    where
      away : (e : Incoming) → reached e.from ≡ true → nat_eq (place g.blocks e.from) q ≡ false
      away e r = by (named_kept e.from r)
        where
          by : (i : ℕ) × (j : ℕ) × (b : Block) × (b.number ≡ e.from) × Stays i j b → nat_eq (place g.blocks e.from) q ≡ false
          by (i, j, b, number, k) =
              ne_eqb (place g.blocks e.from) q (λ s.
              let new : j ≡ q = sym (ap (place g.blocks) (sym number) ∙ new_place f reached are sound.formed i j b k) ∙ s in
              let clash : Some (block_in reached b) ≡ None = sym k.new ∙ ap (slice_get g.blocks) new ∙ none in
              absurd (cc clash))

      zero_of : (es : List Incoming) → count q (entries_in reached es) ≡ 0
      zero_of [] = refl
      zero_of (e ∷ es) = by (reached e.from) refl (zero_of es)
        where
          by : (t : Bool) → reached e.from ≡ t → count q (entries_in reached es) ≡ 0 → count q (if t then e ∷ entries_in reached es else entries_in reached es) ≡ 0
          by true r h = ap (λ (b : Bool). cond b (1 + count q (entries_in reached es)) (count q (entries_in reached es))) (away e r) ∙ h
          by false r h = h

  on_edges : (i j : ℕ) (b : Block) → Stays i j b → (es : List Incoming) → OnEdges f i es → OnEdges g j (entries_in reached es)
  on_edges i j b k es h = record {
    each = λ q. each q (slice_get g.blocks q) refl ∙ sym (edges_from g j (block_in reached b) k.new q) ∙ times_is q (edges g j);
    equal = λ s t e d at_s at_t same. equal e d same (was_there reached es s e at_s) (was_there reached es t d at_t);
  }
    where
      equal : (e d : Incoming) → e.from ≡ d.from → (s : ℕ) × (slice_get es s ≡ Some e) → (t : ℕ) × (slice_get es t ≡ Some d) → e.value ≡ d.value
      equal e d same (s, at_s) (t, at_t) = h.equal s t e d at_s at_t same

      each : (q : ℕ) (o : Option Block) → slice_get g.blocks q ≡ o → count_by (λ e. nat_eq (place g.blocks e.from) q) (entries_in reached es) ≡ out_to b.number (slice_get g.blocks q)
      each q None at = counts_nothing q at es ∙ sym (ap (out_to b.number) at)
      each q (Some c) at = from (kept_at f reached are sound.formed q c at)
        where
          from : (p : ℕ) × (a : Block) × (c ≡ block_in reached a) × Stays p q a → count_by (λ e. nat_eq (place g.blocks e.from) q) (entries_in reached es) ≡ out_to b.number (slice_get g.blocks q)
          from (p, a, is, moved) =
              by_number g (differ_still f reached are sound.formed) q (block_in reached a) moved.new (entries_in reached es)
              ∙ reached_entries reached a.number moved.there es
              ∙ entries_of f (differ f reached are sound.formed) i b k.old p a moved.old es h
              ∙ sym (ap (out_to b.number) moved.new)

  -- ---- item by item

  phi_now : (i j : ℕ) (b : Block) → Stays i j b → (p : Phi) → Was (phi_item i p) → Now (phi_item j (phi_in reached p))
  phi_now i j b k p h = (
    record {
      operands = All-map (ArgumentFormed g) (λ e. typed p.reg e.value) (entries_in reached p.incoming) (All-weaker (Takes p.reg) (λ e. ArgumentFormed g (typed p.reg e.value)) (λ e t. t.0.0) (entries_in reached p.incoming) takes);
      sources = All-weaker (Takes p.reg) (λ e. IsBlock g e.from) (λ e t. t.1) (entries_in reached p.incoming) takes;
      kind = h.0.kind;
    },
    keeps,
  )
    where
      takes : All (Takes p.reg) (entries_in reached p.incoming)
      takes = phi_takes i p h

      keeps : (rule : Rule) → KeepsRule g rule (phi_item j (phi_in reached p))
      keeps TypeMismatch = (All-map (HasType g) (λ e. typed p.reg e.value) (entries_in reached p.incoming) (All-weaker (Takes p.reg) (λ e. HasType g (typed p.reg e.value)) (λ e t. t.0.1.0) (entries_in reached p.incoming) takes), tt)
      keeps NotAvailable = (tt, All-weaker (Takes p.reg) (λ e. IsThereAtEnd g (place g.blocks e.from) e.value) (λ e t. t.0.1.1) (entries_in reached p.incoming) takes)
      keeps PhiEdges = on_edges i j b k p.incoming (h.1 PhiEdges)
      keeps PhiPlace = λ at_0. h.1 PhiPlace (eqb-true i 0 (same_entry f reached are sound.formed i j b k ∙ ap (λ (n : ℕ). nat_eq n 0) at_0))
      keeps EntryBranch = tt
      keeps Index = tt
      keeps Cast = tt
      keeps CaseTwice = tt

  line_now : (i j : ℕ) (b : Block) → Stays i j b → (n : ℕ) (l : Line) → Was (line_item i n l) → Now (line_item j n l)
  line_now i j b k n l h = (
    record {
      operands = subst (λ (as' : List Argument). All (ArgumentFormed g) as') (sym plain) (All-weaker (Given (IsThere g j n)) (ArgumentFormed g) (λ a t. t.0) (reads l.instr) all_read);
      sources = subst (λ (es : List Incoming). All (λ e. IsBlock g e.from) es) (sym (no_taken l.instr no_phi)) (All-nil (λ e. IsBlock g e.from));
      kind = h.0.kind;
    },
    keeps,
  )
    where
      no_phi : IsNoPhi l.instr
      no_phi = h.1 PhiPlace

      plain : reads l.instr ++ phi_reads l.instr ≡ reads l.instr
      plain = ap (λ (more : List Argument). reads l.instr ++ more) (no_phi_reads l.instr no_phi) ∙ append-nil (reads l.instr)

      all_read : All (Given (IsThere g j n)) (reads l.instr)
      all_read =
          all_given (IsThere f i n) (IsThere g j n) (read_ok i j b k n) (reads l.instr)
          (asked (IsThere f i n) (reads l.instr) (all_front (ArgumentFormed f) (reads l.instr) (phi_reads l.instr) h.0.operands) (all_front (HasType f) (reads l.instr) (phi_reads l.instr) (h.1 TypeMismatch).0) (h.1 NotAvailable).0)

      keeps : (rule : Rule) → KeepsRule g rule (line_item j n l)
      keeps TypeMismatch = (subst (λ (as' : List Argument). All (HasType g) as') (sym plain) (All-weaker (Given (IsThere g j n)) (HasType g) (λ a t. t.1.0) (reads l.instr) all_read), (h.1 TypeMismatch).1)
      keeps NotAvailable = (
        All-weaker (Given (IsThere g j n)) (λ a. IsThere g j n a.operand) (λ a t. t.1.1) (reads l.instr) all_read,
        subst (λ (es : List Incoming). All (λ e. IsThereAtEnd g (place g.blocks e.from) e.value) es) (sym (no_taken l.instr no_phi)) (All-nil (λ e. IsThereAtEnd g (place g.blocks e.from) e.value)),
      )
      keeps PhiEdges = no_edges g j l.instr no_phi
      keeps PhiPlace = no_phi
      keeps EntryBranch = tt
      keeps Index = h.1 Index
      keeps Cast = h.1 Cast
      keeps CaseTwice = tt

  end_types : (t : Terminator) → EndTypes f t → EndTypes g t
  end_types (Return argument) h = h
  end_types (Jump target) h = h
  end_types (Branch condition if_true if_false) h = h
  end_types (Switch width value default cases) h = h
  end_types Unreachable h = h

  end_now : (i j : ℕ) (b : Block) → Stays i j b → Was (end_item i b.end) → Now (end_item j b.end)
  end_now i j b k h = (
    record {
      operands = All-weaker (Given (IsThereAtEnd g j)) (ArgumentFormed g) (λ a t. t.0) (end_reads b.end) all_read;
      sources = All-nil (λ e. IsBlock g e.from);
      kind = (h.0.kind.0, all_of_times (IsBlock g) (successors b.end) (λ n some. named_there n (target_reached i j b k n (all_among (IsBlock f) n (successors b.end) h.0.kind.1 some) some)));
    },
    keeps,
  )
    where
      all_read : All (Given (IsThereAtEnd g j)) (end_reads b.end)
      all_read =
          all_given (IsThereAtEnd f i) (IsThereAtEnd g j) (end_ok i j b k) (end_reads b.end)
          (asked (IsThereAtEnd f i) (end_reads b.end) h.0.operands (h.1 TypeMismatch).0 (h.1 NotAvailable).0)

      leaves : (n : ℕ) → 1 ≤ times n (successors b.end) → place g.blocks n ≡ 0 → ⊥
      leaves n some here = by (named_kept n (target_reached i j b k n (all_among (IsBlock f) n (successors b.end) h.0.kind.1 some) some))
        where
          by : (p : ℕ) × (q : ℕ) × (a : Block) × (a.number ≡ n) × Stays p q a → ⊥
          by (p, q, a, number, moved) =
              let old : place f.blocks n ≡ p = ap (place f.blocks) (sym number) ∙ old_place f reached are sound.formed p q a moved in
              let new : q ≡ 0 = sym (ap (place g.blocks) (sym number) ∙ new_place f reached are sound.formed p q a moved) ∙ here in
              let first : p ≡ 0 = eqb-true p 0 (same_entry f reached are sound.formed p q a moved ∙ ap (λ (m : ℕ). nat_eq m 0) new) in
              all_among (λ n. place f.blocks n ≡ 0 → ⊥) n (successors b.end) (h.1 EntryBranch) some (old ∙ first)

      keeps : (rule : Rule) → KeepsRule g rule (end_item j b.end)
      keeps TypeMismatch = (All-weaker (Given (IsThereAtEnd g j)) (HasType g) (λ a t. t.1.0) (end_reads b.end) all_read, end_types b.end (h.1 TypeMismatch).1)
      keeps NotAvailable = (All-weaker (Given (IsThereAtEnd g j)) (λ a. IsThereAtEnd g j a.operand) (λ a t. t.1.1) (end_reads b.end) all_read, All-nil (λ e. IsThereAtEnd g (place g.blocks e.from) e.value))
      keeps PhiEdges = tt
      keeps PhiPlace = tt
      keeps EntryBranch = all_of_times (λ n. place g.blocks n ≡ 0 → ⊥) (successors b.end) leaves
      keeps Index = tt
      keeps Cast = tt
      keeps CaseTwice = h.1 CaseTwice

  phis_now : (i j : ℕ) (b : Block) → Stays i j b → (ps : List Phi) → All Was (map (phi_item i) ps) → All Now (map (phi_item j) (map (phi_in reached) ps))
  phis_now i j b k [] h = All-nil Now
  phis_now i j b k (p ∷ ps) h =
      All-cons Now (phi_item j (phi_in reached p)) (map (phi_item j) (map (phi_in reached) ps)) (phi_now i j b k p (All-head Was (phi_item i p) (map (phi_item i) ps) h))
      (phis_now i j b k ps (All-tail Was (phi_item i p) (map (phi_item i) ps) h))

  lines_now : (i j : ℕ) (b : Block) → Stays i j b → (n : ℕ) (ls : List Line) → All Was (lines_from i n ls) → All Now (lines_from j n ls)
  lines_now i j b k n [] h = All-nil Now
  lines_now i j b k n (l ∷ ls) h =
      All-cons Now (line_item j n l) (lines_from j (suc n) ls) (line_now i j b k n l (All-head Was (line_item i n l) (lines_from i (suc n) ls) h))
      (lines_now i j b k (suc n) ls (All-tail Was (line_item i n l) (lines_from i (suc n) ls) h))

  block_now : (i j : ℕ) (b : Block) → Stays i j b → All Was (block_items i b) → All Now (block_items j (block_in reached b))
  block_now i j b k h =
      let rest : All Was (lines_from i 0 b.lines ++ end_item i b.end ∷ []) = all_back Was (map (phi_item i) b.phis) (lines_from i 0 b.lines ++ end_item i b.end ∷ []) h in
      let last : All Was (end_item i b.end ∷ []) = all_back Was (lines_from i 0 b.lines) (end_item i b.end ∷ []) rest in
      All-append Now (map (phi_item j) (map (phi_in reached) b.phis)) (lines_from j 0 b.lines ++ end_item j b.end ∷ [])
      (phis_now i j b k b.phis (all_front Was (map (phi_item i) b.phis) (lines_from i 0 b.lines ++ end_item i b.end ∷ []) h))
      (All-append Now (lines_from j 0 b.lines) (end_item j b.end ∷ [])
      (lines_now i j b k 0 b.lines (all_front Was (lines_from i 0 b.lines) (end_item i b.end ∷ []) rest))
      (All-cons Now (end_item j b.end) [] (end_now i j b k (All-head Was (end_item i b.end) [] last)) (All-nil Now)))

  blocks_now : (i j : ℕ) (bs : List Block) → ((n : ℕ) → slice_get f.blocks (i + n) ≡ slice_get bs n) → ((n : ℕ) → slice_get g.blocks (j + n) ≡ slice_get (blocks_in reached bs) n)
      → All Was (items_from i bs) → All Now (items_from j (blocks_in reached bs))
  blocks_now i j [] old new h = All-nil Now
  blocks_now i j (b ∷ bs) old new h = by (reached b.number) refl new (λ here. blocks_now (suc i) (suc j) bs next here rest) (λ here. blocks_now (suc i) j bs next here rest)
    where
      at : slice_get f.blocks i ≡ Some b
      at = ap (slice_get f.blocks) (omega arith) ∙ old 0

      next : (n : ℕ) → slice_get f.blocks (suc i + n) ≡ slice_get bs n
      next n = ap (slice_get f.blocks) (omega arith) ∙ old (suc n)

      rest : All Was (items_from (suc i) bs)
      rest = all_back Was (block_items i b) (items_from (suc i) bs) h

      by : (t : Bool) → reached b.number ≡ t → ((n : ℕ) → slice_get g.blocks (j + n) ≡ slice_get (if t then block_in reached b ∷ blocks_in reached bs else blocks_in reached bs) n)
          → (((n : ℕ) → slice_get g.blocks (suc j + n) ≡ slice_get (blocks_in reached bs) n) → All Now (items_from (suc j) (blocks_in reached bs)))
          → (((n : ℕ) → slice_get g.blocks (j + n) ≡ slice_get (blocks_in reached bs) n) → All Now (items_from j (blocks_in reached bs)))
          → All Now (items_from j (if t then block_in reached b ∷ blocks_in reached bs else blocks_in reached bs))
      by true r new more skip =
          let here : slice_get g.blocks j ≡ Some (block_in reached b) = ap (slice_get g.blocks) (omega arith) ∙ new 0 in
          let path : (q : ℕ) × Stays i q b = kept_from f reached are sound.formed i b at r in
          let k : Stays i j b = record { old = at; new = here; there = r; path = path.1.path } in
          All-append Now (block_items j (block_in reached b)) (items_from (suc j) (blocks_in reached bs)) (block_now i j b k (all_front Was (block_items i b) (items_from (suc i) bs) h))
          (more (λ n. ap (slice_get g.blocks) (omega arith) ∙ new (suc n)))
      by false r new more skip = skip new

  items_now : All Now (items g)
  items_now = blocks_now 0 0 f.blocks (λ n. ap (slice_get f.blocks) (omega arith)) (λ n. ap (slice_get g.blocks) (omega arith)) (λ k d lt. (sound.formed.items k d lt, λ rule. sound.rules rule k d lt))

  -- ---- the function

  none_left : (bs : List Block) → f.blocks ≡ bs → g.blocks ≡ [] → bs ≡ []
  none_left [] is none = refl
  none_left (x ∷ xs) is none =
      let at_0 : slice_get f.blocks 0 ≡ Some x = ap (λ (bs : List Block). slice_get bs 0) is in
      let some : 0 < length f.blocks = subst (λ (bs : List Block). 0 < length bs) (sym is) (omega arith) in
      let r : reached x.number ≡ true = (are x.number).1 (0, x, at_0, refl, ([], (refl, some))) in
      let new : g.blocks ≡ block_in reached x ∷ blocks_in reached xs = ap (blocks_in reached) is ∙ ap (λ (t : Bool). if t then block_in reached x ∷ blocks_in reached xs else blocks_in reached xs) r in
      let clash : block_in reached x ∷ blocks_in reached xs ≡ [] = sym new ∙ none in
      absurd (cc clash)

  sound_trimmed : Sound (trimmed reached f)
  sound_trimmed = record {
    formed = record {
      result = sound.formed.result;
      params = sound.formed.params;
      once = once_stays f reached are sound.formed;
      items = λ k d lt. (items_now k d lt).0;
      declared = λ none. sound.formed.declared (none_left f.blocks refl none);
    };
    rules = λ rule. λ k d lt. (items_now k d lt).1 rule;
  }

pub is_sound : TrimIsSound
is_sound f g (reached, are, is) h = subst Sound (sym is) (sound_trimmed f reached are h)
