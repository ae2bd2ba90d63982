-- A sound function is sound after joins.
use Rattle.std.proofs.Common.{◌≡◌, ◌≢◌, ℕ, zero, suc, ◌+◌, ◌≤◌, nat_eq, Bool, true, false, cond, List, [], ◌∷◌, ◌++◌, Option, Some, None, map, option_map, length, refl, sym, ◌∙◌, ap, subst, arith, if◌then◌else◌}
use Rattle.std.specs.Prelude.{All, count_by, slice_get}
use Rattle.std.proofs.lemmas.Bool.{eq-eqb, eqb-true, ne_eqb}
use Rattle.std.proofs.lemmas.List.Elements.{All-append, All-cons, All-head, All-map, All-nil, All-tail, All-weaker}
use Rattle.std.proofs.lemmas.List.Recursion.{is_count_by}
use Rattle.std.proofs.lemmas.Option.{slice_get-map}
use Rattle.std.proofs.lemmas.Simd.{map-map}
use Rattle.ir_tree.specs.Flow.{AvailableAt, AvailableAtEnd, edges, successors}
use Rattle.ir_tree.specs.Formed.{ArgumentFormed, IsBlock, ItemFormed}
use Rattle.ir_tree.specs.Items.{Item, phi_item, line_item, end_item, block_items, end_reads, items, items_from, lines_from, phi_reads, reads, taken, taken_as, typed}
use Rattle.ir_tree.specs.Rules.{EndTypes, HasType, IsNoPhi, IsThere, IsThereAtEnd, Keeps, LineOnEdges, OnEdges, Sound, place}
use Rattle.ir_tree.specs.declared.block.Block.{Block}
use Rattle.ir_tree.specs.declared.block.Terminator.{Terminator}
use Rattle.ir_tree.specs.declared.block.Terminator.TheVariants.{Branch, Jump, Return, Switch, Unreachable}
use Rattle.ir_tree.specs.declared.function.Function.{Function}
use Rattle.ir_tree.specs.declared.instr.Incoming.{Incoming}
use Rattle.ir_tree.specs.declared.instr.Instr.{Instr}
use Rattle.ir_tree.specs.declared.instr.Instr.TheVariants as kind
use Rattle.ir_tree.specs.declared.instr.Line.{Line}
use Rattle.ir_tree.specs.declared.instr.Phi.{Phi}
use Rattle.ir_tree.specs.declared.operand.Argument.{Argument}
use Rattle.ir_tree.specs.declared.operand.Operand.{Operand}
use Rattle.ir_tree.specs.declared.operand.Operand.TheVariants as operand
use Rattle.ir_tree.specs.declared.operand.Reg.{Reg}
use Rattle.ir_tree.specs.declared.rule.Rule.{Rule}
use Rattle.ir_tree.specs.declared.rule.Rule.TheVariants.{TypeMismatch, NotAvailable, PhiEdges, PhiPlace, EntryBranch, Index, Cast, CaseTwice}
use Rattle.ir_meaning.specs.Counted.{sources, times}
use Rattle.ir_meaning.proofs.Counting.{edges_from, here, later, out_to, place_is, times_is}
use Rattle.ir_meaning.proofs.Entries.{by_number, entries_of}
use Rattle.ir_meaning.proofs.Everywhere.{all_among, all_back, all_front, all_of_times, all_with}
use Rattle.block_trim.specs.MergeLaws.{MergeIsSound}
use Rattle.block_trim.specs.Merged.{CanJoin, IsOneOf, Joins, entry_named, joined, joined_block, phi_named, renamed}
use Rattle.block_trim.proofs.Defined.{once_still, operand_stays}
use Rattle.block_trim.proofs.Fitting.{Fits, fits_still, sound_fits}
use Rattle.block_trim.proofs.JoinedPaths.{available_at_stays, available_behind, behind, carries, carries_behind, named}
use Rattle.block_trim.proofs.Moved.{Stays, block_named, entry_kept, first, leads_apart, same_entry, second, stays_at}

-- ---- items block by block

items_of : (P : Item → Type 0) (s : ℕ) (bs : List Block) → All P (items_from s bs) → (i : ℕ) (b : Block) → slice_get bs i ≡ Some b → All P (block_items (s + i) b)
items_of P s [] h i b e = absurd cc
items_of P s (x ∷ bs) h zero b e =
    let same : x ≡ b = cc e in
    subst (λ (n : ℕ). All P (block_items n b)) (omega arith) (subst (λ (z : Block). All P (block_items s z)) same (all_front P (block_items s x) (items_from (suc s) bs) h))
items_of P s (x ∷ bs) h (suc i) b e = subst (λ (n : ℕ). All P (block_items n b)) (omega arith) (items_of P (suc s) bs (all_back P (block_items s x) (items_from (suc s) bs) h) i b e)

items_each : (P : Item → Type 0) (s : ℕ) (bs : List Block) → ((i : ℕ) (b : Block) → slice_get bs i ≡ Some b → All P (block_items (s + i) b)) → All P (items_from s bs)
items_each P s [] h = All-nil P
items_each P s (b ∷ bs) h =
    All-append P (block_items s b) (items_from (suc s) bs) (subst (λ (n : ℕ). All P (block_items n b)) (omega arith) (h 0 b refl))
    (items_each P (suc s) bs (λ i c e. subst (λ (n : ℕ). All P (block_items n c)) (omega arith) (h (suc i) c e)))

lines_both : (b k : ℕ) (ls ms : List Line) → lines_from b k (ls ++ ms) ≡ lines_from b k ls ++ lines_from b (k + length ls) ms
lines_both b k [] ms = ap (λ (n : ℕ). lines_from b n ms) (omega arith)
lines_both b k (l ∷ ls) ms = ap (λ (is : List Item). line_item b k l ∷ is) (lines_both b (suc k) ls ms) ∙ ap (λ (n : ℕ). line_item b k l ∷ (lines_from b (suc k) ls ++ lines_from b n ms)) (omega arith)

-- an instruction that is no phi takes nothing as one
no_phi : (i : Instr) → IsNoPhi i → (taken i ≡ []) × ((f : Function) (b : ℕ) → LineOnEdges f b i)
no_phi (kind.Binary op flags width left right) n = (refl, λ f b. tt)
no_phi (kind.Icmp predicate reg left right) n = (refl, λ f b. tt)
no_phi (kind.Cast op from value to) n = (refl, λ f b. tt)
no_phi (kind.Select condition if_true if_false) n = (refl, λ f b. tt)
no_phi (kind.Freeze reg value) n = (refl, λ f b. tt)
no_phi (kind.Alloca shape align) n = (refl, λ f b. tt)
no_phi (kind.Load reg address align) n = (refl, λ f b. tt)
no_phi (kind.Store reg value address align) n = (refl, λ f b. tt)
no_phi (kind.Address inbounds shape base indices) n = (refl, λ f b. tt)
no_phi (kind.Call result callee arguments) n = (refl, λ f b. tt)
no_phi (kind.Phi reg incoming) n = absurd n

-- ---- entries under new names

source_counted : (es : List Incoming) (i : ℕ) (e : Incoming) → slice_get es i ≡ Some e → 1 ≤ times e.from (sources es)
source_counted [] i e at = absurd cc
source_counted (d ∷ es) zero e at = let same : d ≡ e = cc at in here e.from d.from (sources es) (ap (λ (x : Incoming). x.from) same)
source_counted (d ∷ es) (suc i) e at = later e.from d.from (sources es) (source_counted es i e at)

-- names that aren't the new one are told apart
told_apart : (old new n m : ℕ) → n ≢ new → m ≢ new → renamed old new n ≡ renamed old new m → n ≡ m
told_apart old new n m a b = by (nat_eq old n) (nat_eq old m) refl refl
  where
    by : (t u : Bool) → nat_eq old n ≡ t → nat_eq old m ≡ u → (if t then new else n) ≡ (if u then new else m) → n ≡ m
    by true true e g s = sym (eqb-true old n e) ∙ eqb-true old m g
    by true false e g s = absurd (b (sym s))
    by false true e g s = absurd (a s)
    by false false e g s = s

module _ (f : Function) (sound : Sound f) (a y : Block) (can : CanJoin f a y) where
  fits : Fits f
  fits = sound_fits f sound

  abbrev g : Function
  g = joined a.number y f

  abbrev name : ℕ → ℕ
  name = renamed y.number a.number

  -- the block at its old and its new place
  abbrev Moves : ℕ → ℕ → Block → Type 0
  Moves i j b = Stays f fits a y can i j b

  abbrev old_second : ℕ
  old_second = behind f fits a y can sound.formed.once

  -- ---- what holds of an item

  abbrev Was : Item → Type 0
  Was item = ItemFormed f item × ((rule : Rule) → Keeps f rule item)

  abbrev Now : Item → Type 0
  Now item = ItemFormed g item × ((rule : Rule) → Keeps g rule item)

  -- ---- operands

  all_formed : (as' : List Argument) → All (ArgumentFormed f) as' → All (ArgumentFormed g) as'
  all_formed as' h = All-weaker (ArgumentFormed f) (ArgumentFormed g) (λ x formed. (formed.0, (operand_stays f fits a y can sound.formed.once x.operand formed.1).0)) as' h

  all_typed : (as' : List Argument) → All (ArgumentFormed f) as' → All (HasType f) as' → All (HasType g) as'
  all_typed as' h types = all_with (ArgumentFormed f) (HasType f) (HasType g) as' (λ x formed type. (operand_stays f fits a y can sound.formed.once x.operand formed.1).1 ∙ type) h types

  there : (i n j m : ℕ) → ((x : ℕ) → AvailableAt f i n x → AvailableAt g j m x) → (o : Operand) → IsThere f i n o → IsThere g j m o
  there i n j m move (operand.Local x) h = move x h
  there i n j m move (operand.Number width bits) h = tt
  there i n j m move operand.Null h = tt
  there i n j m move (operand.Poison reg) h = tt
  there i n j m move (operand.Symbol symbol offset) h = tt

  there_at_end : (i j : ℕ) → ((x : ℕ) → AvailableAtEnd f i x → AvailableAtEnd g j x) → (o : Operand) → IsThereAtEnd f i o → IsThereAtEnd g j o
  there_at_end i j move (operand.Local x) h = move x h
  there_at_end i j move (operand.Number width bits) h = tt
  there_at_end i j move operand.Null h = tt
  there_at_end i j move (operand.Poison reg) h = tt
  there_at_end i j move (operand.Symbol symbol offset) h = tt

  -- ---- lines and terminators

  line_now : (i n j m : ℕ) → ((x : ℕ) → AvailableAt f i n x → AvailableAt g j m x) → (l : Line) → Was (line_item i n l) → Now (line_item j m l)
  line_now i n j m move l h = (
    record {
      operands = all_formed (reads l.instr ++ phi_reads l.instr) h.0.operands;
      sources = subst (λ (es : List Incoming). All (λ e. IsBlock g e.from) es) (sym none.0) (All-nil (λ e. IsBlock g e.from));
      kind = h.0.kind;
    },
    keeps,
  )
    where
      none : (taken l.instr ≡ []) × ((f : Function) (b : ℕ) → LineOnEdges f b l.instr)
      none = no_phi l.instr (h.1 PhiPlace)

      keeps : (rule : Rule) → Keeps g rule (line_item j m l)
      keeps TypeMismatch = (all_typed (reads l.instr ++ phi_reads l.instr) h.0.operands (h.1 TypeMismatch).0, (h.1 TypeMismatch).1)
      keeps NotAvailable = (
        All-weaker (λ x. IsThere f i n x.operand) (λ x. IsThere g j m x.operand) (λ x is. there i n j m move x.operand is) (reads l.instr) (h.1 NotAvailable).0,
        subst (λ (es : List Incoming). All (λ e. IsThereAtEnd g (place g.blocks e.from) e.value) es) (sym none.0) (All-nil (λ e. IsThereAtEnd g (place g.blocks e.from) e.value)),
      )
      keeps PhiEdges = none.1 g j
      keeps PhiPlace = h.1 PhiPlace
      keeps EntryBranch = tt
      keeps Index = h.1 Index
      keeps Cast = h.1 Cast
      keeps CaseTwice = tt

  end_types : (t : Terminator) → EndTypes f t → EndTypes g t
  end_types (Return argument) h = h
  end_types (Jump target) h = h
  end_types (Branch condition if_true if_false) h = h
  end_types (Switch width value default cases) h = h
  end_types Unreachable h = h

  -- a terminator that doesn't lead to the second block
  end_now : (i j : ℕ) → ((x : ℕ) → AvailableAtEnd f i x → AvailableAtEnd g j x) → (t : Terminator) → ((n : ℕ) → 1 ≤ times n (successors t) → nat_eq y.number n ≡ false) → Was (end_item i t) → Now (end_item j t)
  end_now i j move t apart h = (
    record {
      operands = all_formed (end_reads t) h.0.operands;
      sources = All-nil (λ e. IsBlock g e.from);
      kind = (h.0.kind.0, all_of_times (IsBlock g) (successors t) still);
    },
    keeps,
  )
    where
      still : (n : ℕ) → 1 ≤ times n (successors t) → IsBlock g n
      still n some = subst (λ (b : Bool). IsBlock g (if b then a.number else n)) (apart n some) (named f fits a y can sound.formed.once n (all_among (IsBlock f) n (successors t) h.0.kind.1 some)).0

      leaves : (n : ℕ) → 1 ≤ times n (successors t) → place g.blocks n ≡ 0 → ⊥
      leaves n some is =
          all_among (λ n. place f.blocks n ≡ 0 → ⊥) n (successors t) (h.1 EntryBranch) some
          (eqb-true (place f.blocks n) 0 (entry_kept f fits a y can f.blocks refl n ∙ eq-eqb (place g.blocks n) 0 is))

      keeps : (rule : Rule) → Keeps g rule (end_item j t)
      keeps TypeMismatch = (all_typed (end_reads t) h.0.operands (h.1 TypeMismatch).0, end_types t (h.1 TypeMismatch).1)
      keeps NotAvailable = (
        All-weaker (λ x. IsThereAtEnd f i x.operand) (λ x. IsThereAtEnd g j x.operand) (λ x is. there_at_end i j move x.operand is) (end_reads t) (h.1 NotAvailable).0,
        All-nil (λ e. IsThereAtEnd g (place g.blocks e.from) e.value),
      )
      keeps PhiEdges = tt
      keeps PhiPlace = tt
      keeps EntryBranch = all_of_times (λ n. place g.blocks n ≡ 0 → ⊥) (successors t) leaves
      keeps Index = tt
      keeps Cast = tt
      keeps CaseTwice = h.1 CaseTwice

  -- ---- as many entries as edges

  abbrev count : ℕ → List Incoming → ℕ
  count q [] = 0
  count q (e ∷ es) = cond (nat_eq (place g.blocks e.from) q) (1 + count q es) (count q es)

  -- no entry is of a block that isn't there
  none_of : (q : ℕ) → slice_get g.blocks q ≡ None → (es : List Incoming) → All (λ e. IsBlock g e.from) es → count_by (λ e. nat_eq (place g.blocks e.from) q) es ≡ 0
  none_of q none es h = sym (is_count_by (count q) (λ e. nat_eq (place g.blocks e.from) q) refl (λ x xs. refl) es) ∙ zero_of es h
    where
      away : (e : Incoming) → IsBlock g e.from → nat_eq (place g.blocks e.from) q ≡ false
      away e is = by (block_named g.blocks e.from is)
        where
          by : (j : ℕ) × (b : Block) × (slice_get g.blocks j ≡ Some b) × (b.number ≡ e.from) → nat_eq (place g.blocks e.from) q ≡ false
          by (j, b, at, number) =
              ne_eqb (place g.blocks e.from) q (λ s.
              let same : j ≡ q = sym (ap (place g.blocks) (sym number) ∙ place_is g.blocks (fits_still f fits a y can).once j b at) ∙ s in
              let clash : Some b ≡ None = sym at ∙ ap (slice_get g.blocks) same ∙ none in
              absurd (cc clash))

      zero_of : (es : List Incoming) → All (λ e. IsBlock g e.from) es → count q es ≡ 0
      zero_of [] h = refl
      zero_of (e ∷ es) h =
          ap (λ (b : Bool). cond b (1 + count q es) (count q es)) (away e (All-head (λ e. IsBlock g e.from) e es h)) ∙ zero_of es (All-tail (λ e. IsBlock g e.from) e es h)

  -- as many entries of each block as edges from it
  abbrev Counted : Block → Phi → Type 0
  Counted b p = (w : Block) → IsOneOf g.blocks w → times w.number (sources p.incoming) ≡ times b.number (successors w.end)

  -- the entry at a place came from one that stood there
  abbrev Came : List Incoming → ℕ → Incoming → Type 0
  Came es s e = (c : Incoming) × (slice_get es s ≡ Some c) × (e ≡ entry_named name c)

  on_edges : (i j : ℕ) (b : Block) → Moves i j b → (p : Phi) → Counted b (phi_named name p) → All (λ e. IsBlock g e.from) (map (entry_named name) p.incoming) → OnEdges f i p.incoming → OnEdges g j (map (entry_named name) p.incoming)
  on_edges i j b k p many there h = record {
    each = λ q. each q (slice_get g.blocks q) refl ∙ sym (edges_from g j (joined_block a.number y b) k.new q) ∙ times_is q (edges g j);
    equal = λ s t e d at_s at_t same. equal s t e d (was s e at_s) (was t d at_t) same;
  }
    where
      each : (q : ℕ) (o : Option Block) → slice_get g.blocks q ≡ o → count_by (λ e. nat_eq (place g.blocks e.from) q) (map (entry_named name) p.incoming) ≡ out_to b.number (slice_get g.blocks q)
      each q None at = none_of q at (map (entry_named name) p.incoming) there ∙ sym (ap (out_to b.number) at)
      each q (Some w) at = by_number g (fits_still f fits a y can).once q w at (map (entry_named name) p.incoming) ∙ many w (q, at) ∙ sym (ap (out_to b.number) at)

      was : (s : ℕ) (e : Incoming) → slice_get (map (entry_named name) p.incoming) s ≡ Some e → Came p.incoming s e
      was s e at = by (slice_get p.incoming s) refl (sym (slice_get-map (entry_named name) p.incoming s) ∙ at)
        where
          by : (o : Option Incoming) → slice_get p.incoming s ≡ o → option_map (entry_named name) o ≡ Some e → Came p.incoming s e
          by None is g = absurd cc
          by (Some c) is g = let same : entry_named name c ≡ e = cc g in (c, is, sym same)

      -- the first block led to the second alone, which has no phis
      not_first : (s : ℕ) (c : Incoming) → slice_get p.incoming s ≡ Some c → c.from ≢ a.number
      not_first s c at is =
          let some : 1 ≤ times a.number (sources p.incoming) = subst (λ (n : ℕ). 1 ≤ times n (sources p.incoming)) is (source_counted p.incoming s c at) in
          let none : times a.number (sources p.incoming) ≡ 0 =
          entries_of f fits.once i b k.old can.first.0 a can.first.1 p.incoming h ∙ ap (λ (t : Terminator). times b.number (successors t)) can.jumps ∙ ap (λ (t : Bool). if t then 1 else 0) k.apart in
          omega (arith, some, none)

      equal : (s t : ℕ) (e d : Incoming) → Came p.incoming s e → Came p.incoming t d → e.from ≡ d.from → e.value ≡ d.value
      equal s t e d (c, at_s, is) (z, at_t, is') same =
          ap (λ (x : Incoming). x.value) is
          ∙ h.equal s t c z at_s at_t (told_apart y.number a.number c.from z.from (not_first s c at_s) (not_first t z at_t) (ap (λ (x : Incoming). x.from) (sym is) ∙ same ∙ ap (λ (x : Incoming). x.from) is'))
          ∙ ap (λ (x : Incoming). x.value) (sym is')

  -- ---- phis

  taken_still : (reg : Reg) (es : List Incoming) → taken_as reg (map (entry_named name) es) ≡ taken_as reg es
  taken_still reg es = map-map {A = Incoming} {B = Incoming} {C = Argument} (λ e. typed reg e.value) (entry_named name) es

  phi_now : (i j : ℕ) (b : Block) → Moves i j b → (p : Phi) → Counted b (phi_named name p) → Was (phi_item i p) → Now (phi_item j (phi_named name p))
  phi_now i j b k p many h = (record { operands = subst (λ (as' : List Argument). All (ArgumentFormed g) as') (sym (taken_still p.reg p.incoming)) (all_formed (taken_as p.reg p.incoming) h.0.operands); sources = blocks; kind = h.0.kind }, keeps)
    where
      blocks : All (λ e. IsBlock g e.from) (map (entry_named name) p.incoming)
      blocks = All-map (λ e. IsBlock g e.from) (entry_named name) p.incoming (All-weaker (λ e. IsBlock f e.from) (λ e. IsBlock g (name e.from)) (λ e is. (named f fits a y can sound.formed.once e.from is).0) p.incoming h.0.sources)

      values : All (λ e. IsThereAtEnd g (place g.blocks e.from) e.value) (map (entry_named name) p.incoming)
      values =
          All-map (λ e. IsThereAtEnd g (place g.blocks e.from) e.value) (entry_named name) p.incoming
          (all_with (λ e. IsBlock f e.from) (λ e. IsThereAtEnd f (place f.blocks e.from) e.value) (λ e. IsThereAtEnd g (place g.blocks (name e.from)) e.value) p.incoming
          (λ e is old. there_at_end (place f.blocks e.from) (place g.blocks (name e.from)) (named f fits a y can sound.formed.once e.from is).1 e.value old) h.0.sources (h.1 NotAvailable).1)

      keeps : (rule : Rule) → Keeps g rule (phi_item j (phi_named name p))
      keeps TypeMismatch = (subst (λ (as' : List Argument). All (HasType g) as') (sym (taken_still p.reg p.incoming)) (all_typed (taken_as p.reg p.incoming) h.0.operands (h.1 TypeMismatch).0), tt)
      keeps NotAvailable = (tt, values)
      keeps PhiEdges = on_edges i j b k p many blocks (h.1 PhiEdges)
      keeps PhiPlace = λ at_0. h.1 PhiPlace (eqb-true i 0 (same_entry f fits a y can i j b k ∙ ap (λ (n : ℕ). nat_eq n 0) at_0))
      keeps EntryBranch = tt
      keeps Index = tt
      keeps Cast = tt
      keeps CaseTwice = tt

  -- ---- block by block

  phis_now : (i j : ℕ) (b : Block) → Moves i j b → (ps : List Phi) → All (Counted b) (map (phi_named name) ps) → All Was (map (phi_item i) ps) → All Now (map (phi_item j) (map (phi_named name) ps))
  phis_now i j b k [] many h = All-nil Now
  phis_now i j b k (p ∷ ps) many h =
      All-cons Now (phi_item j (phi_named name p)) (map (phi_item j) (map (phi_named name) ps))
      (phi_now i j b k p (All-head (Counted b) (phi_named name p) (map (phi_named name) ps) many) (All-head Was (phi_item i p) (map (phi_item i) ps) h))
      (phis_now i j b k ps (All-tail (Counted b) (phi_named name p) (map (phi_named name) ps) many) (All-tail Was (phi_item i p) (map (phi_item i) ps) h))

  lines_now : (i n j m : ℕ) → ((d x : ℕ) → AvailableAt f i (n + d) x → AvailableAt g j (m + d) x) → (ls : List Line) → All Was (lines_from i n ls) → All Now (lines_from j m ls)
  lines_now i n j m move [] h = All-nil Now
  lines_now i n j m move (l ∷ ls) h =
      All-cons Now (line_item j m l) (lines_from j (suc m) ls) (line_now i n j m at_0 l (All-head Was (line_item i n l) (lines_from i (suc n) ls) h))
      (lines_now i (suc n) j (suc m) further ls (All-tail Was (line_item i n l) (lines_from i (suc n) ls) h))
    where
      at_0 : (x : ℕ) → AvailableAt f i n x → AvailableAt g j m x
      at_0 x is = subst (λ (k : ℕ). AvailableAt g j k x) (omega arith) (move 0 x (subst (λ (k : ℕ). AvailableAt f i k x) (omega arith) is))

      further : (d x : ℕ) → AvailableAt f i (suc n + d) x → AvailableAt g j (suc m + d) x
      further d x is = subst (λ (k : ℕ). AvailableAt g j k x) (omega arith) (move (suc d) x (subst (λ (k : ℕ). AvailableAt f i k x) (omega arith) is))

  own_lines : (i j : ℕ) (b : Block) → Moves i j b → All Was (lines_from i 0 b.lines) → All Now (lines_from j 0 b.lines)
  own_lines i j b k h = lines_now i 0 j 0 (λ d x is. available_at_stays f fits a y can sound.formed.once i j b k (0 + d) x is) b.lines h

  lines_behind : (i j : ℕ) (b : Block) → Moves i j b → nat_eq a.number b.number ≡ true → All Was (lines_from old_second 0 y.lines) → All Now (lines_from j (length b.lines) y.lines)
  lines_behind i j b k e h =
      lines_now old_second 0 j (length b.lines)
      (λ d x is. available_behind f fits a y can sound.formed.once i j b k e d x (subst (λ (n : ℕ). AvailableAt f old_second n x) (omega arith) is)) y.lines h

  abbrev Rest : ℕ → Block → List Item
  Rest i b = lines_from i 0 b.lines ++ end_item i b.end ∷ []

  rest_lines : (i : ℕ) (b : Block) → All Was (Rest i b) → All Was (lines_from i 0 b.lines)
  rest_lines i b h = all_front Was (lines_from i 0 b.lines) (end_item i b.end ∷ []) h

  rest_end : (i : ℕ) (b : Block) → All Was (Rest i b) → Was (end_item i b.end)
  rest_end i b h = All-head Was (end_item i b.end) [] (all_back Was (lines_from i 0 b.lines) (end_item i b.end ∷ []) h)

  rest_now : (i j : ℕ) (b : Block) → Moves i j b → All Was (Rest i b) → All Was (Rest old_second y) → All Now (Rest j (joined_block a.number y b))
  rest_now i j b k h behind_h = by (nat_eq a.number b.number) refl
    where
      by : (t : Bool) → nat_eq a.number b.number ≡ t → All Now (lines_from j 0 (if t then b.lines ++ y.lines else b.lines) ++ end_item j (if t then y.end else b.end) ∷ [])
      by true e =
          subst (λ (is : List Item). All Now (is ++ end_item j y.end ∷ [])) (sym (lines_both j 0 b.lines y.lines))
          (All-append Now (lines_from j 0 b.lines ++ lines_from j (0 + length b.lines) y.lines) (end_item j y.end ∷ [])
          (All-append Now (lines_from j 0 b.lines) (lines_from j (0 + length b.lines) y.lines) (own_lines i j b k (rest_lines i b h))
          (subst (λ (n : ℕ). All Now (lines_from j n y.lines)) (omega arith) (lines_behind i j b k e (rest_lines old_second y behind_h))))
          (All-cons Now (end_item j y.end) []
          (end_now old_second j (carries_behind f fits a y can sound.formed.once i j b k e) y.end
          (leads_apart f fits a y can y (old_second, (second f fits a y can).1) (ne_eqb a.number y.number (λ s. can.other (sym s)))) (rest_end old_second y behind_h))
          (All-nil Now)))
      by false e =
          All-append Now (lines_from j 0 b.lines) (end_item j b.end ∷ []) (own_lines i j b k (rest_lines i b h))
          (All-cons Now (end_item j b.end) []
          (end_now i j (carries f fits a y can sound.formed.once i j b k) b.end (leads_apart f fits a y can b (i, k.old) e) (rest_end i b h)) (All-nil Now))

  all_was : All Was (items f)
  all_was = λ k d lt. (sound.formed.items k d lt, λ rule. sound.rules rule k d lt)

  block_was : (i : ℕ) (b : Block) → slice_get f.blocks i ≡ Some b → All Was (block_items i b)
  block_was i b at = subst (λ (n : ℕ). All Was (block_items n b)) (omega arith) (items_of Was 0 f.blocks all_was i b at)

  rest_was : (i : ℕ) (b : Block) → slice_get f.blocks i ≡ Some b → All Was (Rest i b)
  rest_was i b at = all_back Was (map (phi_item i) b.phis) (Rest i b) (block_was i b at)

  block_now : (j : ℕ) (c : Block) → slice_get g.blocks j ≡ Some c → All Now (block_items j c)
  block_now j c at = by (stays_at f fits a y can j c at)
    where
      by : (i : ℕ) × (b : Block) × (c ≡ joined_block a.number y b) × Moves i j b → All Now (block_items j c)
      by (i, b, is, k) =
          subst (λ (z : Block). All Now (block_items j z)) (sym is)
          (All-append Now (map (phi_item j) (map (phi_named name) b.phis)) (Rest j (joined_block a.number y b))
          (phis_now i j b k b.phis (λ n d lt. λ w w_is. (fits_still f fits a y can).entries (joined_block a.number y b) w (j, k.new) w_is n d lt) (all_front Was (map (phi_item i) b.phis) (Rest i b) (block_was i b k.old)))
          (rest_now i j b k (rest_was i b k.old) (rest_was old_second y (second f fits a y can).1)))

  items_now : All Now (items g)
  items_now = items_each Now 0 g.blocks (λ j c at. subst (λ (n : ℕ). All Now (block_items n c)) (omega arith) (block_now j c at))

  pub join_sound : Sound (joined a.number y f)
  join_sound = record {
    formed = record {
      result = sound.formed.result;
      params = sound.formed.params;
      once = once_still f fits a y can sound.formed.once;
      items = λ k d lt. (items_now k d lt).0;
      declared = λ none. (let clash : Some (joined_block a.number y a) ≡ None = sym (first f fits a y can).1.new ∙ ap (λ (bs : List Block). slice_get bs (first f fits a y can).0) none in absurd (cc clash));
    };
    rules = λ rule. λ k d lt. (items_now k d lt).1 rule;
  }

-- ---- all joins

joins_sound : (k : ℕ) (f g : Function) → Sound f → Joins k f g → Sound g
joins_sound zero f g sound is = subst Sound (sym is) sound
joins_sound (suc k) f g sound (h, a, y, before, can, a_first, is) = subst Sound (sym is) (join_sound h (joins_sound k f h sound before) a y can)

pub is_sound : MergeIsSound
is_sound f g sound (k, joins, none) = joins_sound k f g sound joins
