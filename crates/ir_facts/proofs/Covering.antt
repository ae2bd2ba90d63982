-- A sound function is covered: one family of sets has each use of a local at its point.
use Rattle.std.proofs.Common.{◌≡◌, ℕ, zero, suc, ◌+◌, ◌≤◌, nat_eq, ◌==◌, ◌||◌, ◌⊎◌, inl, inr, Bool, true, false, cond, List, [], ◌∷◌, ◌++◌, Option, Some, None, map, length, take, refl, sym, ◌∙◌, ap, subst, arith, if◌then◌else◌, length-append}
use Rattle.std.specs.Prelude.{All, count_by, slice_get}
use Rattle.std.proofs.lemmas.Bool.{cases_eq, eq-eqb, eqb-true, false≢true, ne_eqb, or_cases, or_left, or_right}
use Rattle.std.proofs.lemmas.List.{get_or_append_left, get_or-append-add, take_all}
use Rattle.std.proofs.lemmas.List.Elements.{All-cons, All-head, All-tail, All-weaker}
use Rattle.std.proofs.lemmas.List.Folds.{list_any-append}
use Rattle.std.proofs.lemmas.List.Sums.{sum_by-cons}
use Rattle.ir_tree.specs.Flow.{Among, AtEnds, AvailableAt, IsJustified, Justified, availability, defined_before, defined_in, edges, entry_row, holds, line_count, parameters, phi_locals, results}
use Rattle.ir_tree.specs.Formed.{IsBlock, ItemFormed}
use Rattle.ir_tree.specs.Items.{Item, phi_item, line_item, end_item, block_items, end_reads, items, items_from, lines_from, reads, typed}
use Rattle.ir_tree.specs.Rules.{EntriesThere, HasEdges, IsThere, IsThereAtEnd, ReadsThere, Sound, StandsRight, place}
use Rattle.ir_tree.specs.declared.block.Block.{Block}
use Rattle.ir_tree.specs.declared.block.Terminator.{Terminator}
use Rattle.ir_tree.specs.declared.block.Terminator.TheVariants.{Branch, Jump, Return, Switch, Unreachable}
use Rattle.ir_tree.specs.declared.function.Function.{Function}
use Rattle.ir_tree.specs.declared.instr.Incoming.{Incoming}
use Rattle.ir_tree.specs.declared.instr.Instr.{Instr}
use Rattle.ir_tree.specs.declared.instr.Instr.TheVariants.{Address, Alloca, Binary, Call, Cast, Freeze, Icmp, Load, Phi as StrayPhi, Select, Store}
use Rattle.ir_tree.specs.declared.instr.Line.{Line}
use Rattle.ir_tree.specs.declared.instr.Phi.{Phi}
use Rattle.ir_tree.specs.declared.operand.Argument.{Argument}
use Rattle.ir_tree.specs.declared.operand.Operand.{Operand}
use Rattle.ir_tree.specs.declared.operand.Operand.TheVariants.{Local, Null, Number as Constant, Poison as PoisonOf, Symbol as Named}
use Rattle.ir_tree.specs.declared.operand.Reg.TheVariants.{Int, Ptr}
use Rattle.ir_tree.specs.declared.rule.Rule.TheVariants.{NotAvailable, PhiEdges, PhiPlace}
use Rattle.ir_meaning.specs.Facts.{edge_operand}
use Rattle.ir_meaning.specs.Needed.{AllKept, EndReads, IsKept, UsesKept}
use Rattle.ir_facts.proofs.Covers.{BlockCovered, Covers, EdgesCovered, HasEntry, LinesCovered, PhisCovered, PhisEntered, TakenAt, behind, behind_is, closing, opening, with_named}

-- ---- of each element

pub all_front : {X : Type 0} (P : X → Type 0) (xs ys : List X) → All P (xs ++ ys) → All P xs
all_front P xs ys h = λ k d lt. subst P (get_or_append_left xs ys d k lt) (h k d (omega (arith, lt, length-append xs ys)))

pub all_back : {X : Type 0} (P : X → Type 0) (xs ys : List X) → All P (xs ++ ys) → All P ys
all_back P xs ys h = λ k d lt. subst P (get_or-append-add xs ys k d) (h (length xs + k) d (omega (arith, lt, length-append xs ys)))

all_none : {X : Type 0} (P : X → Type 0) → All P []
all_none P = λ k d lt. absurd (omega (arith, lt))

kept_more : (s t : ℕ → Bool) → ((x : ℕ) → s x ≡ true → t x ≡ true) → (o : Operand) → IsKept s o → IsKept t o
kept_more s t more (Local x) h = more x h
kept_more s t more (Constant w n) h = tt
kept_more s t more Null h = tt
kept_more s t more (PoisonOf reg) h = tt
kept_more s t more (Named i o) h = tt

pub or_mono : (a b d : Bool) → (a ≡ true → d ≡ true) → (a || b) ≡ true → (d || b) ≡ true
or_mono a b d f h = elim (or_cases a b h) [ inl e ↦ or_left d b (f e) | inr e ↦ or_right d b e ]

-- ---- families of one function

abbrev pub Family : Type 0
Family = ℕ → ℕ → Bool

module _ (f : Function) where
  abbrev Just : Family → Type 0
  Just r = IsJustified (availability f) r

  abbrev either : Family → Family → Family
  either r s b x = r b x || s b x

  abbrev none : Family
  none b x = false

  none_just : Just none
  none_just b x m = absurd (false≢true m)

  abbrev Within : Family → Family → Type 0
  Within r s = (b x : ℕ) → r b x ≡ true → s b x ≡ true

  ends_more : (r s : Family) → Within r s → (x : ℕ) (ps : List ℕ) → AtEnds (availability f) r x ps → AtEnds (availability f) s x ps
  ends_more r s more x [] h = tt
  ends_more r s more x (p ∷ ps) h = (or_mono (r p x) (defined_in (slice_get f.blocks p) x) (s p x) (more p x) h.0, ends_more r s more x ps h.1)

  why_more : (r s : Family) → Within r s → (b x : ℕ) → Justified (availability f) r b x (entry_row b (parameters f)) → Justified (availability f) s b x (entry_row b (parameters f))
  why_more r s more b x = by (nat_eq b 0)
    where
      by : (t : Bool) → Justified (availability f) r b x (if t then Some (holds (parameters f)) else None) → Justified (availability f) s b x (if t then Some (holds (parameters f)) else None)
      by true h = h
      by false h = ends_more r s more x (edges f b) h

  in_first : (r s : Family) → Within r (either r s)
  in_first r s b x h = or_left (r b x) (s b x) h

  in_second : (r s : Family) → Within s (either r s)
  in_second r s b x h = or_right (r b x) (s b x) h

  either_just : (r s : Family) → Just r → Just s → Just (either r s)
  either_just r s jr js b x m =
      elim (or_cases (r b x) (s b x) m) [
        | inl h ↦ (let j = jr b x h in (j.0, j.1, why_more r (either r s) (in_first r s) b x j.2))
        | inr h ↦ (let j = js b x h in (j.0, j.1, why_more s (either r s) (in_second r s) b x j.2))
      ]

  -- a family of which something holds
  pub record Found (P : Family → Type 0) : Type 0 where
    pub family : Family
    pub just : Just family
    pub held : P family

  abbrev Grows : (Family → Type 0) → Type 0
  Grows P = (r s : Family) → Within r s → P r → P s

  all_families : {X : Type 0} (P : X → Family → Type 0) → ((x : X) → Grows (P x)) → (Q : X → Type 0) → ((x : X) → Q x → Found (P x)) → (xs : List X) → All Q xs → Found (λ r. All (λ x. P x r) xs)
  all_families P grows Q each [] h = record { family = none; just = none_just; held = all_none (λ x. P x none) }
  all_families P grows Q each (x ∷ xs) h =
      let one = each x (All-head Q x xs h) in
      let more = all_families P grows Q each xs (All-tail Q x xs h) in
      let r = either one.family more.family in
      record {
        family = r;
        just = either_just one.family more.family one.just more.just;
        held =
            All-cons (λ y. P y r) x xs (grows x one.family r (in_first one.family more.family) one.held)
            (All-weaker (λ y. P y more.family) (λ y. P y r) (λ y. grows y more.family r (in_second one.family more.family)) xs more.held);
      }

  -- ---- one use

  abbrev pub at : Family → ℕ → ℕ → ℕ → Bool
  at r b k x = r b x || defined_before (slice_get f.blocks b) k x

  abbrev pub lines_of : ℕ → ℕ
  lines_of b = line_count (slice_get f.blocks b)

  at_more : (r s : Family) → Within r s → (b k x : ℕ) → at r b k x ≡ true → at s b k x ≡ true
  at_more r s more b k x = or_mono (r b x) (defined_before (slice_get f.blocks b) k x) (s b x) (more b x)

  use_grows : (b k : ℕ) (o : Operand) → Grows (λ r. IsKept (at r b k) o)
  use_grows b k o r s more = kept_more (at r b k) (at s b k) (at_more r s more b k) o

  local_use : (b k x : ℕ) → AvailableAt f b k x → Found (λ r. at r b k x ≡ true)
  local_use b k x (inl h) = record { family = h.0; just = h.1; held = or_left (h.0 b x) (defined_before (slice_get f.blocks b) k x) h.2 }
  local_use b k x (inr h) = record { family = none; just = none_just; held = or_right false (defined_before (slice_get f.blocks b) k x) h }

  one_use : (b k : ℕ) (o : Operand) → IsThere f b k o → Found (λ r. IsKept (at r b k) o)
  one_use b k (Local x) h = local_use b k x h
  one_use b k (Constant w n) h = record { family = none; just = none_just; held = tt }
  one_use b k Null h = record { family = none; just = none_just; held = tt }
  one_use b k (PoisonOf reg) h = record { family = none; just = none_just; held = tt }
  one_use b k (Named s i) h = record { family = none; just = none_just; held = tt }

  end_use : (b : ℕ) (o : Operand) → IsThereAtEnd f b o → Found (λ r. IsKept (at r b (lines_of b)) o)
  end_use b (Local x) h = local_use b (lines_of b) x h
  end_use b (Constant w n) h = record { family = none; just = none_just; held = tt }
  end_use b Null h = record { family = none; just = none_just; held = tt }
  end_use b (PoisonOf reg) h = record { family = none; just = none_just; held = tt }
  end_use b (Named s i) h = record { family = none; just = none_just; held = tt }

  -- ---- one item

  abbrev TakenIn : Incoming → Family → Type 0
  TakenIn e r = IsKept (at r (place f.blocks e.from) (lines_of (place f.blocks e.from))) e.value

  abbrev ItemIn : Item → Family → Type 0
  ItemIn (phi_item b p) r = All (λ e. TakenIn e r) p.incoming
  ItemIn (line_item b k l) r = All (λ a. IsKept (at r b k) a.operand) (reads l.instr)
  ItemIn (end_item b t) r = All (λ a. IsKept (at r b (lines_of b)) a.operand) (end_reads t)

  item_grows : (item : Item) → Grows (ItemIn item)
  item_grows (phi_item b p) r s more = All-weaker (λ e. TakenIn e r) (λ e. TakenIn e s) (λ e. use_grows (place f.blocks e.from) (lines_of (place f.blocks e.from)) e.value r s more) p.incoming
  item_grows (line_item b k l) r s more = All-weaker (λ a. IsKept (at r b k) a.operand) (λ a. IsKept (at s b k) a.operand) (λ a. use_grows b k a.operand r s more) (reads l.instr)
  item_grows (end_item b t) r s more = All-weaker (λ a. IsKept (at r b (lines_of b)) a.operand) (λ a. IsKept (at s b (lines_of b)) a.operand) (λ a. use_grows b (lines_of b) a.operand r s more) (end_reads t)

  item_family : (item : Item) → ReadsThere f item × EntriesThere f item → Found (ItemIn item)
  item_family (phi_item b p) h =
      all_families (λ e r. TakenIn e r) (λ e. use_grows (place f.blocks e.from) (lines_of (place f.blocks e.from)) e.value) (λ e. IsThereAtEnd f (place f.blocks e.from) e.value) (λ e. end_use (place f.blocks e.from) e.value) p.incoming h.1
  item_family (line_item b k l) h =
      all_families (λ a r. IsKept (at r b k) a.operand) (λ a. use_grows b k a.operand) (λ a. IsThere f b k a.operand) (λ a. one_use b k a.operand) (reads l.instr) h.0
  item_family (end_item b t) h =
      all_families (λ a r. IsKept (at r b (lines_of b)) a.operand) (λ a. use_grows b (lines_of b) a.operand) (λ a. IsThereAtEnd f b a.operand) (λ a. end_use b a.operand) (end_reads t) h.0

  -- ---- block by block

  record IsRight (r : Family) (item : Item) : Type 0 where
    uses : ItemIn item r
    formed : ItemFormed f item
    stands : StandsRight item
    on_edges : HasEdges f item

  pub blocks_items : (P : Item → Type 0) (k : ℕ) (bs : List Block) → All P (items_from k bs) → (i : ℕ) (b : Block) → slice_get bs i ≡ Some b → All P (block_items (k + i) b)
  blocks_items P k [] h i b e = absurd (cc e)
  blocks_items P k (d ∷ bs) h zero b e =
      let is : d ≡ b = cc e in
      let here : k ≡ k + 0 = omega arith in
      subst (λ (c : Block). All P (block_items (k + 0) c)) is (subst (λ (j : ℕ). All P (block_items j d)) here (all_front P (block_items k d) (items_from (suc k) bs) h))
  blocks_items P k (d ∷ bs) h (suc i) b e =
      let next : suc k + i ≡ k + suc i = omega arith in
      subst (λ (j : ℕ). All P (block_items j b)) next (blocks_items P (suc k) bs (all_back P (block_items k d) (items_from (suc k) bs) h) i b e)

  placed : (bs : List Block) (n : ℕ) → holds (map (λ b. b.number) bs) n ≡ true → (b : Block) × (slice_get bs (place bs n) ≡ Some b) × (b.number ≡ n)
  placed [] n h = absurd (false≢true h)
  placed (b ∷ bs) n h = by (placed bs n) (cases_eq b.number n) (or_cases (nat_eq n b.number) (holds (map (λ c. c.number) bs) n) h)
    where
      by : (holds (map (λ c. c.number) bs) n ≡ true → (c : Block) × (slice_get bs (place bs n) ≡ Some c) × (c.number ≡ n)) → (b.number ≡ n) ⊎ (b.number ≡ n → ⊥) → (nat_eq n b.number ≡ true) ⊎ (holds (map (λ c. c.number) bs) n ≡ true)
          → (c : Block) × (slice_get (b ∷ bs) (if nat_eq b.number n then zero else suc (place bs n)) ≡ Some c) × (c.number ≡ n)
      by later (inl e) any = (b, ap (λ (t : Bool). slice_get (b ∷ bs) (if t then zero else suc (place bs n))) (eq-eqb b.number n e), e)
      by later (inr ne) (inl e) = absurd (ne (sym (eqb-true n b.number e)))
      by later (inr ne) (inr more) =
          let rest = later more in
          (rest.0, ap (λ (t : Bool). slice_get (b ∷ bs) (if t then zero else suc (place bs n))) (ne_eqb b.number n ne) ∙ rest.1, rest.2)

  pub at_end_is : (r : Family) (p : ℕ) (b : Block) → slice_get f.blocks p ≡ Some b → (x : ℕ) → at r p (lines_of p) x ≡ closing r p b x
  at_end_is r p b e x =
      ap (λ (o : Option Block). r p x || defined_before o (line_count o) x) e
      ∙ ap (λ (ls : List Line). r p x || holds (phi_locals b ++ results ls) x) (take_all (length b.lines) b.lines (omega arith))

  -- what an instruction reads
  each_kept : (s : ℕ → Bool) (as' : List Argument) → All (λ a. IsKept s a.operand) as' → AllKept s as'
  each_kept s [] h = tt
  each_kept s (a ∷ more) h = (All-head (λ a. IsKept s a.operand) a more h, each_kept s more (All-tail (λ a. IsKept s a.operand) a more h))

  pub reads_kept : (s : ℕ → Bool) (i : Instr) → All (λ a. IsKept s a.operand) (reads i) → UsesKept s i
  reads_kept s (Binary op flags w l r) h = let k = each_kept s (reads (Binary op flags w l r)) h in (k.0, k.1.0)
  reads_kept s (Icmp p reg l r) h = let k = each_kept s (reads (Icmp p reg l r)) h in (k.0, k.1.0)
  reads_kept s (Cast op from o to) h = (each_kept s (reads (Cast op from o to)) h).0
  reads_kept s (Select c a b) h = let k = each_kept s (reads (Select c a b)) h in (k.0, k.1.0, k.1.1.0)
  reads_kept s (Freeze reg o) h = (each_kept s (reads (Freeze reg o)) h).0
  reads_kept s (Alloca shape align) h = tt
  reads_kept s (Load reg o align) h = (each_kept s (reads (Load reg o align)) h).0
  reads_kept s (Store reg o d align) h = let k = each_kept s (reads (Store reg o d align)) h in (k.0, k.1.0)
  reads_kept s (Address inbounds shape o is) h = each_kept s (typed Ptr o ∷ is) h
  reads_kept s (Call result o args) h = each_kept s (typed Ptr o ∷ args) h
  reads_kept s (StrayPhi reg es) h = tt

  end_kept : (s : ℕ → Bool) (t : Terminator) → All (λ a. IsKept s a.operand) (end_reads t) → EndReads s t
  end_kept s (Return None) h = tt
  end_kept s (Return (Some a)) h = All-head (λ a. IsKept s a.operand) a [] h
  end_kept s (Jump target) h = tt
  end_kept s (Branch c yes' no') h = All-head (λ a. IsKept s a.operand) (typed (Int 1) c) [] h
  end_kept s (Switch w o default cases) h = All-head (λ a. IsKept s a.operand) (typed (Int w) o) [] h
  end_kept s Unreachable h = tt

  module _ (r : Family) where
    lines_in : (n : ℕ) (ls : List Line) (k : ℕ) (s : ℕ → Bool) → ((j x : ℕ) → at r n (k + j) x ≡ true → behind s (take j ls) x ≡ true) → All (IsRight r) (lines_from n k ls) → LinesCovered s ls
    lines_in n [] k s h all = tt
    lines_in n (l ∷ ls) k s h all =
        let own = All-head (IsRight r) (line_item n k l) (lines_from n (suc k) ls) all in
        let here : k + 0 ≡ k = omega arith in (
          own.stands,
          reads_kept s l.instr
              (All-weaker (λ a. IsKept (at r n k) a.operand) (λ a. IsKept s a.operand)
              (λ a. kept_more (at r n k) s (λ x g. h 0 x (ap (λ (i : ℕ). at r n i x) here ∙ g)) a.operand) (reads l.instr) own.uses),
          lines_in n ls (suc k) (with_named s l.local) (λ j x g. h (suc j) x (let next : k + suc j ≡ suc k + j = omega arith in ap (λ (i : ℕ). at r n i x) next ∙ g))
              (All-tail (IsRight r) (line_item n k l) (lines_from n (suc k) ls) all),
        )

    taken_in : (e : Incoming) → IsBlock f e.from → TakenIn e r → TakenAt r f e.from e.value
    taken_in e is h =
        let found = placed f.blocks e.from is in
        record {
          place = place f.blocks e.from;
          block = found.0;
          found = found.1;
          number = found.2;
          kept =
              kept_more (at r (place f.blocks e.from) (lines_of (place f.blocks e.from))) (closing r (place f.blocks e.from) found.0)
              (λ x g. sym (at_end_is r (place f.blocks e.from) found.0 found.1 x) ∙ g) e.value h;
        }

    edges_in : (es : List Incoming) → All (λ e. IsBlock f e.from) es → All (λ e. TakenIn e r) es → EdgesCovered r f es
    edges_in [] is h = tt
    edges_in (e ∷ es) is h =
        (taken_in e (All-head (λ d. IsBlock f d.from) e es is) (All-head (λ d. TakenIn d r) e es h), edges_in es (All-tail (λ d. IsBlock f d.from) e es is) (All-tail (λ d. TakenIn d r) e es h))

    phis_in : (n : ℕ) (ps : List Phi) → All (IsRight r) (map (phi_item n) ps) → PhisCovered r f ps
    phis_in n [] all = tt
    phis_in n (p ∷ ps) all =
        let own = All-head (IsRight r) (phi_item n p) (map (phi_item n) ps) all in
        (edges_in p.incoming own.formed.sources own.uses, phis_in n ps (All-tail (IsRight r) (phi_item n p) (map (phi_item n) ps) all))

    -- ---- entries for each edge

    counted : {X : Type 0} (t : X → Bool) (x : X) (xs : List X) → count_by t (x ∷ xs) ≡ cond (t x) 1 0 + count_by t xs
    counted t x xs = sum_by-cons (λ y. cond (t y) 1 0) x xs

    counted_edge : (q : ℕ) (ts : List ℕ) → Among q ts → 1 ≤ count_by (λ t. nat_eq t q) ts
    counted_edge q [] h = absurd h
    counted_edge q (t ∷ ts) h = subst (λ (m : ℕ). 1 ≤ m) (sym (counted (λ u. nat_eq u q) t ts)) (by (nat_eq t q) refl h (counted_edge q ts))
      where
        by : (b : Bool) → nat_eq t q ≡ b → (q ≡ t) ⊎ Among q ts → (Among q ts → 1 ≤ count_by (λ t. nat_eq t q) ts) → 1 ≤ cond b 1 0 + count_by (λ t. nat_eq t q) ts
        by true e h' more = omega arith
        by false e (inl same) more = absurd (false≢true (sym e ∙ eq-eqb t q (sym same)))
        by false e (inr h') more = let rest : 1 ≤ count_by (λ t. nat_eq t q) ts = more h' in omega (arith, rest)

    entry_for : (q n : ℕ) (es : List Incoming) → All (λ e. IsBlock f e.from) es → ((m : ℕ) → IsBlock f m → place f.blocks m ≡ q → m ≡ n) → 1 ≤ count_by (λ e. nat_eq (place f.blocks e.from) q) es → HasEntry n es
    entry_for q n [] is one h = absurd (omega (arith, h))
    entry_for q n (e ∷ es) is one h = by (nat_eq (place f.blocks e.from) q) refl (subst (λ (m : ℕ). 1 ≤ m) (counted (λ d. nat_eq (place f.blocks d.from) q) e es) h) (entry_for q n es (All-tail (λ d. IsBlock f d.from) e es is) one)
      where
        found : (b : Bool) → (e.from ≡ n) ⊎ HasEntry n es → (e.from == n) ≡ b → (o : Operand) × ((if b then Some e.value else edge_operand n es) ≡ Some o)
        found true any e' = (e.value, refl)
        found false (inl same) e' = absurd (false≢true (sym e' ∙ eq-eqb e.from n same))
        found false (inr more) e' = more

        by : (b : Bool) → nat_eq (place f.blocks e.from) q ≡ b → 1 ≤ cond b 1 0 + count_by (λ d. nat_eq (place f.blocks d.from) q) es
            → (1 ≤ count_by (λ d. nat_eq (place f.blocks d.from) q) es → HasEntry n es) → HasEntry n (e ∷ es)
        by true e' h' more = found (e.from == n) (inl (one e.from (All-head (λ d. IsBlock f d.from) e es is) (eqb-true (place f.blocks e.from) q e'))) refl
        by false e' h' more = found (e.from == n) (inr (more (omega (arith, h')))) refl

    entered_in : (n q : ℕ) (a : Block) → Among q (edges f n) → slice_get f.blocks q ≡ Some a → (ps : List Phi) → All (IsRight r) (map (phi_item n) ps) → PhisEntered a.number ps
    entered_in n q a edge e [] all = tt
    entered_in n q a edge e (p ∷ ps) all =
        let own = All-head (IsRight r) (phi_item n p) (map (phi_item n) ps) all in
        let some : 1 ≤ count_by (λ d. nat_eq (place f.blocks d.from) q) p.incoming = subst (λ (m : ℕ). 1 ≤ m) (sym (own.on_edges.each q)) (counted_edge q (edges f n) edge) in (
          entry_for q a.number p.incoming own.formed.sources one some,
          entered_in n q a edge e ps (All-tail (IsRight r) (phi_item n p) (map (phi_item n) ps) all),
        )
      where
        one : (m : ℕ) → IsBlock f m → place f.blocks m ≡ q → m ≡ a.number
        one m is at' =
            let found = placed f.blocks m is in
            let same : found.0 ≡ a = cc (sym found.1, ap (slice_get f.blocks) at', e) in
            sym found.2 ∙ ap (λ (c : Block). c.number) same

    block_in : (n : ℕ) (b : Block) → slice_get f.blocks n ≡ Some b → All (IsRight r) (block_items n b) → BlockCovered r f n b
    block_in n b e all =
        let phis = all_front (IsRight r) (map (phi_item n) b.phis) (lines_from n 0 b.lines ++ end_item n b.end ∷ []) all in
        let rest = all_back (IsRight r) (map (phi_item n) b.phis) (lines_from n 0 b.lines ++ end_item n b.end ∷ []) all in
        let last = All-head (IsRight r) (end_item n b.end) [] (all_back (IsRight r) (lines_from n 0 b.lines) (end_item n b.end ∷ []) rest) in
        record {
          phis = phis_in n b.phis phis;
          lines = lines_in n b.lines 0 (opening r n b) (λ j x g. open_at j x g) (all_front (IsRight r) (lines_from n 0 b.lines) (end_item n b.end ∷ []) rest);
          end =
              end_kept (closing r n b) b.end
              (All-weaker (λ a. IsKept (at r n (lines_of n)) a.operand) (λ a. IsKept (closing r n b) a.operand)
              (λ a. kept_more (at r n (lines_of n)) (closing r n b) (λ x g. sym (at_end_is r n b e x) ∙ g) a.operand) (end_reads b.end) last.uses);
          entered = λ q a edge found. entered_in n q a edge found b.phis phis;
        }
      where
        moved : (s t u : Bool) → (s || (t || u)) ≡ ((s || t) || u)
        moved true t u = refl
        moved false t u = refl

        open_at : (j x : ℕ) → at r n (0 + j) x ≡ true → behind (opening r n b) (take j b.lines) x ≡ true
        open_at j x g =
            let here : j ≡ 0 + j = omega arith in
            behind_is (opening r n b) (take j b.lines) x
            ∙ sym (moved (r n x) (holds (phi_locals b) x) (holds (results (take j b.lines)) x))
            ∙ ap (λ (v : Bool). r n x || v) (sym (list_any-append (nat_eq x) (phi_locals b) (results (take j b.lines))))
            ∙ ap (λ (o : Option Block). r n x || defined_before o j x) (sym e)
            ∙ ap (λ (i : ℕ). at r n i x) here
            ∙ g

  -- ---- the function

  pub covered : Sound f → Found (λ r. Covers r f)
  covered sound =
      let all = all_families ItemIn item_grows (λ item. ReadsThere f item × EntriesThere f item) item_family (items f) (sound.rules NotAvailable) in
      let right : All (IsRight all.family) (items f) = λ k d lt. record {
        uses = all.held k d lt;
        formed = sound.formed.items k d lt;
        stands = sound.rules PhiPlace k d lt;
        on_edges = sound.rules PhiEdges k d lt;
      } in
      let each = blocks_items (IsRight all.family) 0 f.blocks right in
      record {
        family = all.family;
        just = all.just;
        held = record {
          justified = all.just;
          blocks = λ p b e. block_in all.family p b e (let here : 0 + p ≡ p = omega arith in subst (λ (j : ℕ). All (IsRight all.family) (block_items j b)) here (each p b e));
          bare = λ b e. no_phis b.phis (all_front (IsRight all.family) (map (phi_item 0) b.phis) (lines_from 0 0 b.lines ++ end_item 0 b.end ∷ []) (each 0 b e));
          once = sound.formed.once;
        };
      }
    where
      no_phis : {r : Family} (ps : List Phi) → All (IsRight r) (map (phi_item 0) ps) → ps ≡ []
      no_phis [] h = refl
      no_phis {r = r} (p ∷ ps) h = absurd ((All-head (IsRight r) (phi_item 0 p) (map (phi_item 0) ps) h).stands refl)
