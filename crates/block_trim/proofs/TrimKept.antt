-- What is available at a block that is reached is available there in the function without the other blocks.
use Rattle.std.proofs.Common.{◌≡◌, ℕ, zero, suc, ◌+◌, ◌≤◌, ◌<◌, max, nat_eq, ◌&&◌, ◌||◌, ◌⊎◌, inl, inr, Bool, true, false, List, [], ◌∷◌, ◌++◌, Option, Some, None, length, refl, sym, ◌∙◌, ap, subst, arith, if◌then◌else◌}
use Rattle.std.specs.Prelude.{slice_get, flat_map, take}
use Rattle.std.proofs.lemmas.Bool.{and_from, and_parts, eqb-true, ne_eqb, or_cases, or_left, or_right}
use Rattle.std.proofs.lemmas.Option.{slice_get_within}
use Rattle.ir_tree.specs.Flow.{AtEnds, Available, AvailableAt, AvailableAtEnd, IsJustified, Justified, Path, Reachable, availability, defined_before, defined_in, definitions, edges, entry_row, holds, line_count, locals, parameters, phi_locals, results, room, successors}
use Rattle.ir_tree.specs.Formed.{Distinct, Formed, numbers}
use Rattle.ir_tree.specs.Rules.{place}
use Rattle.ir_tree.specs.declared.block.Block.{Block}
use Rattle.ir_tree.specs.declared.function.Function.{Function}
use Rattle.ir_edit.proofs.Tally.{distinct_less, tally, tally_both}
use Rattle.ir_flow.specs.Laws.{Passed}
use Rattle.ir_flow.proofs.Availability.{available-passed}
use Rattle.ir_meaning.specs.Counted.{times}
use Rattle.ir_meaning.proofs.Counting.{edges_from, here, later, numbers_in, out_to, place_is}
use Rattle.ir_meaning.proofs.Entries.{apart, distinct_back}
use Rattle.block_trim.specs.Trimmed.{AreReached, IsReached, block_in, blocks_in, trimmed}
use Rattle.block_trim.proofs.Members.{results_taken}
use Rattle.block_trim.proofs.TrimPlaces.{Stood, defined_less, definitions_stay, numbers_less, phi_locals_stay, stays, stood}
use Rattle.ir_edit.proofs.Holding.{holds_back, holds_either, holds_front}

has_room : (x : ℕ) (xs : List ℕ) → holds xs x ≡ true → x < room xs
has_room x [] h = absurd cc
has_room x (y ∷ ys) h = at (or_cases (nat_eq x y) (holds ys x) h) (has_room x ys)
  where
    at : (nat_eq x y ≡ true) ⊎ (holds ys x ≡ true) → (holds ys x ≡ true → x < room ys) → x < max (suc y) (room ys)
    at (inl e) more = let same : x ≡ y = eqb-true x y e in omega (arith, same)
    at (inr g) more = let lt : x < room ys = more g in omega (arith, lt)

holds_in_blocks : (x : ℕ) (bs : List Block) (j : ℕ) (b : Block) → slice_get bs j ≡ Some b → holds (definitions b) x ≡ true → holds (flat_map definitions bs) x ≡ true
holds_in_blocks x [] j b e h = absurd cc
holds_in_blocks x (y ∷ bs) zero b e h =
    let same : y ≡ b = cc e in
    holds_front x (definitions y) (flat_map definitions bs) (ap (λ (z : Block). holds (definitions z) x) same ∙ h)
holds_in_blocks x (y ∷ bs) (suc j) b e h = holds_back x (definitions y) (flat_map definitions bs) (holds_in_blocks x bs j b e h)

module _ (f : Function) (reached : ℕ → Bool) (are : AreReached f reached) (formed : Formed f) where
  abbrev g : Function
  g = trimmed reached f

  pub differ : Distinct (numbers_in f.blocks)
  differ = apart f formed

  pub once_stays : Distinct (locals g ++ numbers g)
  once_stays = distinct_less (locals g ++ numbers g) (locals f ++ numbers f) less formed.once
    where
      less : (x : ℕ) → tally x (locals g ++ numbers g) ≤ tally x (locals f ++ numbers f)
      less x =
          let a : tally x (locals g ++ numbers g) ≡ tally x (locals g) + tally x (numbers g) = tally_both x (locals g) (numbers g) in
          let b : tally x (locals f ++ numbers f) ≡ tally x (locals f) + tally x (numbers f) = tally_both x (locals f) (numbers f) in
          let c : tally x (locals g) ≡ tally x (parameters f) + tally x (flat_map definitions (blocks_in reached f.blocks)) = tally_both x (parameters f) (flat_map definitions (blocks_in reached f.blocks)) in
          let d : tally x (locals f) ≡ tally x (parameters f) + tally x (flat_map definitions f.blocks) = tally_both x (parameters f) (flat_map definitions f.blocks) in
          let e : tally x (flat_map definitions (blocks_in reached f.blocks)) ≤ tally x (flat_map definitions f.blocks) = defined_less reached x f.blocks in
          let h : tally x (numbers g) ≤ tally x (numbers f) = numbers_less reached x f.blocks in
          omega (arith, a, b, c, d, e, h)

  pub differ_still : Distinct (numbers_in g.blocks)
  differ_still = distinct_back (locals g) (numbers g) once_stays

  -- a block at its old and its new place, to which a path leads
  pub record Keeps (i j : ℕ) (b : Block) : Type 0 where
    pub old : slice_get f.blocks i ≡ Some b
    pub new : slice_get g.blocks j ≡ Some (block_in reached b)
    pub there : reached b.number ≡ true
    pub path : Reachable f i

  path_to : (i : ℕ) (b : Block) → slice_get f.blocks i ≡ Some b → IsReached f b.number → Reachable f i
  path_to i b at (k, a, at_a, number, path) =
      subst (λ (n : ℕ). Reachable f n) (sym (place_is f.blocks differ k a at_a) ∙ ap (place f.blocks) number ∙ place_is f.blocks differ i b at) path

  pub kept_from : (i : ℕ) (b : Block) → slice_get f.blocks i ≡ Some b → reached b.number ≡ true → (j : ℕ) × Keeps i j b
  kept_from i b at r =
      let place : (j : ℕ) × (slice_get g.blocks j ≡ Some (block_in reached b)) = stays reached f.blocks i b at r in
      (place.0, record { old = at; new = place.1; there = r; path = path_to i b at ((are b.number).0 r) })

  pub kept_at : (j : ℕ) (c : Block) → slice_get g.blocks j ≡ Some c → (i : ℕ) × (b : Block) × (c ≡ block_in reached b) × Keeps i j b
  kept_at j c at = by (stood reached f.blocks j c at)
    where
      by : Stood reached f.blocks c → (i : ℕ) × (b : Block) × (c ≡ block_in reached b) × Keeps i j b
      by (i, b, old, r, is) = (i, b, is, record { old = old; new = at ∙ ap (λ (x : Block). Some x) is; there = r; path = path_to i b old ((are b.number).0 r) })

  -- a block that a path reaches is kept
  pub kept_on_path : (i : ℕ) (b : Block) → slice_get f.blocks i ≡ Some b → Reachable f i → (j : ℕ) × Keeps i j b
  kept_on_path i b at path = kept_from i b at ((are b.number).1 (i, b, at, refl, path))

  pub old_place : (i j : ℕ) (b : Block) → Keeps i j b → place f.blocks b.number ≡ i
  old_place i j b k = place_is f.blocks differ i b k.old

  pub new_place : (i j : ℕ) (b : Block) → Keeps i j b → place g.blocks b.number ≡ j
  new_place i j b k = place_is g.blocks differ_still j (block_in reached b) k.new

  -- ---- the entry stays the entry

  entry_kept : (bs : List Block) → f.blocks ≡ bs → (n : ℕ) → nat_eq (place f.blocks n) 0 ≡ nat_eq (place g.blocks n) 0
  entry_kept [] is n = ap (λ (bs : List Block). nat_eq (place bs n) 0) is ∙ sym (ap (λ (bs : List Block). nat_eq (place (blocks_in reached bs) n) 0) is)
  entry_kept (x ∷ xs) is n =
      let at_0 : slice_get f.blocks 0 ≡ Some x = ap (λ (bs : List Block). slice_get bs 0) is in
      let some : 0 < length f.blocks = subst (λ (bs : List Block). 0 < length bs) (sym is) (omega arith) in
      let r : reached x.number ≡ true = (are x.number).1 (0, x, at_0, refl, ([], (refl, some))) in
      let new : g.blocks ≡ block_in reached x ∷ blocks_in reached xs = ap (blocks_in reached) is ∙ ap (λ (t : Bool). if t then block_in reached x ∷ blocks_in reached xs else blocks_in reached xs) r in
      ap (λ (bs : List Block). nat_eq (place bs n) 0) is ∙ by (nat_eq x.number n) ∙ sym (ap (λ (bs : List Block). nat_eq (place bs n) 0) new)
    where
      by : (t : Bool) → nat_eq (if t then 0 else suc (place xs n)) 0 ≡ nat_eq (if t then 0 else suc (place (blocks_in reached xs) n)) 0
      by true = refl
      by false = ne_eqb (suc (place xs n)) 0 (λ e. omega (arith, e)) ∙ sym (ne_eqb (suc (place (blocks_in reached xs) n)) 0 (λ e. omega (arith, e)))

  pub same_entry : (i j : ℕ) (b : Block) → Keeps i j b → nat_eq i 0 ≡ nat_eq j 0
  same_entry i j b k = ap (λ (n : ℕ). nat_eq n 0) (sym (old_place i j b k)) ∙ entry_kept f.blocks refl b.number ∙ ap (λ (n : ℕ). nat_eq n 0) (new_place i j b k)

  -- ---- locals that are available are defined in blocks that stay

  defined_there : (i j : ℕ) (b : Block) → Keeps i j b → (x : ℕ) → holds (definitions b) x ≡ true → holds (locals g) x ≡ true
  defined_there i j b k x h =
      holds_back x (parameters f) (flat_map definitions g.blocks) (holds_in_blocks x g.blocks j (block_in reached b) k.new (ap (λ (l : List ℕ). holds l x) (definitions_stay reached b) ∙ h))

  passed_there : (x : ℕ) (ps : List ℕ) (i : ℕ) → Path f ps i → Passed f x ps → holds (locals g) x ≡ true
  passed_there x [] i path h = holds_front x (parameters f) (flat_map definitions g.blocks) h
  passed_there x (p ∷ ps) i path (inr h) = passed_there x ps p path.1 h
  passed_there x (p ∷ ps) i path (inl h) = by (slice_get f.blocks p) refl h
    where
      by : (o : Option Block) → slice_get f.blocks p ≡ o → defined_in o x ≡ true → holds (locals g) x ≡ true
      by None at h = absurd cc
      by (Some b) at h = let k : (j : ℕ) × Keeps p j b = kept_on_path p b at (ps, path.1) in defined_there p k.0 b k.1 x h

  before_defined : (b : Block) (n x : ℕ) → holds (phi_locals b ++ results (take n b.lines)) x ≡ true → holds (definitions b) x ≡ true
  before_defined b n x h = by (holds_either x (phi_locals b) (results (take n b.lines)) h)
    where
      by : (holds (phi_locals b) x ≡ true) ⊎ (holds (results (take n b.lines)) x ≡ true) → holds (phi_locals b ++ results b.lines) x ≡ true
      by (inl e) = holds_front x (phi_locals b) (results b.lines) e
      by (inr e) = holds_back x (phi_locals b) (results b.lines) (results_taken x n b.lines e)

  pub local_there : (i j : ℕ) (b : Block) → Keeps i j b → (n x : ℕ) → AvailableAt f i n x → holds (locals g) x ≡ true
  local_there i j b k n x (inl h) = passed_there x k.path.0 i k.path.1 (available-passed f i x h k.path.0 k.path.1)
  local_there i j b k n x (inr h) = defined_there i j b k x (before_defined b n x (sym (ap (λ (o : Option Block). defined_before o n x) k.old) ∙ h))

  -- ---- marks

  abbrev mark_at : (ℕ → ℕ → Bool) → ℕ → Option Block → Bool
  mark_at rows x None = false
  mark_at rows x (Some c) = rows (place f.blocks c.number) x && holds (locals g) x

  abbrev marks : (ℕ → ℕ → Bool) → ℕ → ℕ → Bool
  marks rows j x = mark_at rows x (slice_get g.blocks j)

  marks_at : (rows : ℕ → ℕ → Bool) (i j : ℕ) (b : Block) → Keeps i j b → (x : ℕ) → marks rows j x ≡ (rows i x && holds (locals g) x)
  marks_at rows i j b k x = ap (mark_at rows x) k.new ∙ ap (λ (n : ℕ). rows n x && holds (locals g) x) (old_place i j b k)

  at_end : (rows : ℕ → ℕ → Bool) (x p : ℕ) (ps : List ℕ) → AtEnds (availability f) rows x ps → 1 ≤ times p ps → (rows p x || defined_in (slice_get f.blocks p) x) ≡ true
  at_end rows x p [] h some = absurd (omega (arith, some))
  at_end rows x p (q ∷ qs) h some = by (nat_eq q p) refl some (at_end rows x p qs h.1)
    where
      by : (t : Bool) → nat_eq q p ≡ t → 1 ≤ (if t then suc (times p qs) else times p qs) → (1 ≤ times p qs → (rows p x || defined_in (slice_get f.blocks p) x) ≡ true)
          → (rows p x || defined_in (slice_get f.blocks p) x) ≡ true
      by true e some more = subst (λ (r : ℕ). (rows r x || defined_in (slice_get f.blocks r) x) ≡ true) (eqb-true q p e) h.0
      by false e some more = more some

  ends_from : (rows : ℕ → ℕ → Bool) (x : ℕ) (qs : List ℕ) → ((q : ℕ) → 1 ≤ times q qs → (marks rows q x || defined_in (slice_get g.blocks q) x) ≡ true) → AtEnds (availability g) (marks rows) x qs
  ends_from rows x [] h = tt
  ends_from rows x (q ∷ qs) h = (h q (here q q qs refl), ends_from rows x qs (λ r some. h r (later r q qs some)))

  module _ (rows : ℕ → ℕ → Bool) (x : ℕ) (local : holds (locals g) x ≡ true) where
    -- what holds at the end of a predecessor holds at its new place
    pred_end : (i j : ℕ) (b : Block) → Keeps i j b → AtEnds (availability f) rows x (edges f i) → (q : ℕ) → 1 ≤ times q (edges g j) → (marks rows q x || defined_in (slice_get g.blocks q) x) ≡ true
    pred_end i j b k h q some = by (slice_get g.blocks q) refl
      where
        many : times q (edges g j) ≡ out_to b.number (slice_get g.blocks q)
        many = edges_from g j (block_in reached b) k.new q

        moved : (p : ℕ) (a : Block) → Keeps p q a → (marks rows q x || defined_in (slice_get g.blocks q) x) ≡ true
        moved p a from = at (or_cases (rows p x) (defined_in (slice_get f.blocks p) x) (at_end rows x p (edges f i) h leads))
          where
            leads : 1 ≤ times p (edges f i)
            leads =
                let now : times q (edges g j) ≡ times b.number (successors a.end) = many ∙ ap (out_to b.number) from.new in
                let then' : times p (edges f i) ≡ times b.number (successors a.end) = edges_from f i b k.old p ∙ ap (out_to b.number) from.old in
                omega (arith, now, then', some)

            at : (rows p x ≡ true) ⊎ (defined_in (slice_get f.blocks p) x ≡ true) → (marks rows q x || defined_in (slice_get g.blocks q) x) ≡ true
            at (inl e) = or_left (marks rows q x) (defined_in (slice_get g.blocks q) x) (marks_at rows p q a from x ∙ and_from (rows p x) (holds (locals g) x) e local)
            at (inr e) =
                or_right (marks rows q x) (defined_in (slice_get g.blocks q) x)
                (ap (λ (o : Option Block). defined_in o x) from.new ∙ ap (λ (l : List ℕ). holds l x) (definitions_stay reached a) ∙ sym (ap (λ (o : Option Block). defined_in o x) from.old) ∙ e)

        by : (o : Option Block) → slice_get g.blocks q ≡ o → (marks rows q x || defined_in (slice_get g.blocks q) x) ≡ true
        by None e = let none : times q (edges g j) ≡ 0 = many ∙ ap (out_to b.number) e in absurd (omega (arith, some, none))
        by (Some c) e = let from : (p : ℕ) × (a : Block) × (c ≡ block_in reached a) × Keeps p q a = kept_at q c e in moved from.0 from.1 from.3

    justified_at : (i j : ℕ) (b : Block) → Keeps i j b → Justified (availability f) rows i x (entry_row i (parameters f)) → Justified (availability g) (marks rows) j x (entry_row j (parameters f))
    justified_at i j b k = at (nat_eq i 0) (nat_eq j 0) (same_entry i j b k)
      where
        at : (s t : Bool) → s ≡ t → Justified (availability f) rows i x (if s then Some (holds (parameters f)) else None) → Justified (availability g) (marks rows) j x (if t then Some (holds (parameters f)) else None)
        at true true e h = h
        at true false e h = absurd (cc e)
        at false true e h = absurd (cc e)
        at false false e h = ends_from rows x (edges g j) (pred_end i j b k h)

  family_stays : (rows : ℕ → ℕ → Bool) → IsJustified (availability f) rows → IsJustified (availability g) (marks rows)
  family_stays rows just j x mark = by (slice_get g.blocks j) refl mark
    where
      by : (o : Option Block) → slice_get g.blocks j ≡ o → mark_at rows x o ≡ true → (j < length g.blocks) × (x < room (locals g)) × Justified (availability g) (marks rows) j x (entry_row j (parameters f))
      by None at m = absurd cc
      by (Some c) at m = from (kept_at j c at)
        where
          parts : (rows (place f.blocks c.number) x ≡ true) × (holds (locals g) x ≡ true)
          parts = and_parts (rows (place f.blocks c.number) x) (holds (locals g) x) m

          from : (i : ℕ) × (b : Block) × (c ≡ block_in reached b) × Keeps i j b → (j < length g.blocks) × (x < room (locals g)) × Justified (availability g) (marks rows) j x (entry_row j (parameters f))
          from (i, b, is, k) =
              let old : place f.blocks c.number ≡ i = ap (λ (y : Block). place f.blocks y.number) is ∙ old_place i j b k in
              let row : rows i x ≡ true = ap (λ (n : ℕ). rows n x) (sym old) ∙ parts.0 in
              (slice_get_within g.blocks j c at, has_room x (locals g) parts.1, justified_at rows x parts.1 i j b k (just i x row).2)

  available_stays : (i j : ℕ) (b : Block) → Keeps i j b → (x : ℕ) → holds (locals g) x ≡ true → Available f i x → Available g j x
  available_stays i j b k x local (rows, just, mark) = (marks rows, family_stays rows just, marks_at rows i j b k x ∙ and_from (rows i x) (holds (locals g) x) mark local)

  pub available_at_stays : (i j : ℕ) (b : Block) → Keeps i j b → (n x : ℕ) → AvailableAt f i n x → AvailableAt g j n x
  available_at_stays i j b k n x (inl h) = inl (available_stays i j b k x (local_there i j b k n x (inl h)) h)
  available_at_stays i j b k n x (inr h) =
      inr (ap (λ (o : Option Block). defined_before o n x) k.new ∙ ap (λ (l : List ℕ). holds (l ++ results (take n b.lines)) x) (phi_locals_stay reached b)
      ∙ sym (ap (λ (o : Option Block). defined_before o n x) k.old) ∙ h)

  pub available_at_end_stays : (i j : ℕ) (b : Block) → Keeps i j b → (x : ℕ) → AvailableAtEnd f i x → AvailableAtEnd g j x
  available_at_end_stays i j b k x h =
      subst (λ (n : ℕ). AvailableAt g j n x) (sym (ap line_count k.new)) (available_at_stays i j b k (length b.lines) x (subst (λ (n : ℕ). AvailableAt f i n x) (ap line_count k.old) h))

  pub local_at_end : (i j : ℕ) (b : Block) → Keeps i j b → (x : ℕ) → AvailableAtEnd f i x → holds (locals g) x ≡ true
  local_at_end i j b k x h = local_there i j b k (line_count (slice_get f.blocks i)) x h
