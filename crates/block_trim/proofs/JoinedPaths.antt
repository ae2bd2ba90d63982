-- What is available before a join is available after it.
use Rattle.std.proofs.Common.{◌≡◌, ℕ, zero, suc, ◌+◌, ◌≤◌, ◌<◌, nat_eq, ◌||◌, ◌⊎◌, inl, inr, Bool, true, false, List, [], ◌∷◌, ◌++◌, Option, Some, None, length, refl, sym, ◌∙◌, ap, subst, arith, if◌then◌else◌, length-append}
use Rattle.std.specs.Prelude.{map, slice_get, take}
use Rattle.std.specs.List.{cons_option}
use Rattle.std.proofs.lemmas.Bool.{eq-eqb, eqb-true, ne_eqb, or_cases, or_left, or_right}
use Rattle.std.proofs.lemmas.List.{take_all}
use Rattle.std.proofs.lemmas.List.Folds.{list_any-append}
use Rattle.std.proofs.lemmas.Option.{slice_get_within}
use Rattle.ir_tree.specs.Flow.{Among, AtEnds, Available, AvailableAt, AvailableAtEnd, IsJustified, Justified, availability, defined_before, defined_in, definitions, edges, entry_row, holds, line_count, locals, parameters, phi_locals, results, room, successors}
use Rattle.ir_tree.specs.Formed.{Distinct, IsBlock, numbers}
use Rattle.ir_tree.specs.Rules.{place}
use Rattle.ir_tree.specs.declared.block.Block.{Block}
use Rattle.ir_tree.specs.declared.function.Function.{Function}
use Rattle.ir_tree.specs.declared.instr.Line.{Line}
use Rattle.ir_tree.specs.declared.instr.Phi.{Phi}
use Rattle.ir_flow.proofs.Solved.{at_end, at_ends}
use Rattle.ir_meaning.specs.Counted.{times}
use Rattle.ir_meaning.proofs.Counting.{among_times, edges_from, here, later, out_to, place_is}
use Rattle.block_trim.specs.Merged.{CanJoin, joined, joined_block, renamed}
use Rattle.block_trim.proofs.Defined.{holds_more, phi_locals_stay, results_both, room_stays, still_defined}
use Rattle.block_trim.proofs.Fitting.{Fits}
use Rattle.block_trim.proofs.Moved.{Stays, block_named, first, first_leads, new_place, number_there, old_place, same_entry, second, stays_at, stays_from}

-- ---- first lines

-- what some first lines give, they give with more lines behind
results_front : (x n : ℕ) (ls ms : List Line) → holds (results (take n ls)) x ≡ true → holds (results (take n (ls ++ ms))) x ≡ true
results_front x zero ls ms h = absurd cc
results_front x (suc n) [] ms h = absurd cc
results_front x (suc n) (l ∷ ls) ms h = by l.local h (results_front x n ls ms)
  where
    by : (o : Option ℕ) → holds (cons_option o (results (take n ls))) x ≡ true → (holds (results (take n ls)) x ≡ true → holds (results (take n (ls ++ ms))) x ≡ true) → holds (cons_option o (results (take n (ls ++ ms)))) x ≡ true
    by None h more = more h
    by (Some y) h more = at (or_cases (nat_eq x y) (holds (results (take n ls)) x) h)
      where
        at : (nat_eq x y ≡ true) ⊎ (holds (results (take n ls)) x ≡ true) → (nat_eq x y || holds (results (take n (ls ++ ms))) x) ≡ true
        at (inl e) = or_left (nat_eq x y) (holds (results (take n (ls ++ ms))) x) e
        at (inr g) = or_right (nat_eq x y) (holds (results (take n (ls ++ ms))) x) (more g)

take_behind : (n : ℕ) (ls ms : List Line) → take (length ls + n) (ls ++ ms) ≡ ls ++ take n ms
take_behind n [] ms = ap (λ (k : ℕ). take k ms) (omega arith)
take_behind n (l ∷ ls) ms =
    let one : suc (length ls) + n ≡ suc (length ls + n) = omega arith in
    ap (λ (k : ℕ). take k (l ∷ (ls ++ ms))) one ∙ ap (λ (rest : List Line). l ∷ rest) (take_behind n ls ms)

times_among : (n : ℕ) (xs : List ℕ) → Among n xs → 1 ≤ times n xs
times_among n [] h = absurd h
times_among n (x ∷ xs) (inl e) = here n x xs (sym e)
times_among n (x ∷ xs) (inr m) = later n x xs (times_among n xs m)

module _ (f : Function) (fits : Fits f) (a y : Block) (can : CanJoin f a y) (once : Distinct (locals f ++ numbers f)) where
  abbrev g : Function
  g = joined a.number y f

  abbrev Moves : ℕ → ℕ → Block → Type 0
  Moves i j b = Stays f fits a y can i j b

  -- the second block's old place
  abbrev pub behind : ℕ
  behind = suc (second f fits a y can).0

  at_behind : slice_get f.blocks behind ≡ Some y
  at_behind = (second f fits a y can).1

  -- ---- marks

  abbrev mark_at : (ℕ → ℕ → Bool) → ℕ → Option Block → Bool
  mark_at rows x None = false
  mark_at rows x (Some c) = rows (place f.blocks c.number) x

  abbrev marks : (ℕ → ℕ → Bool) → ℕ → ℕ → Bool
  marks rows j x = mark_at rows x (slice_get g.blocks j)

  marks_at : (rows : ℕ → ℕ → Bool) (i j : ℕ) (b : Block) → Moves i j b → (x : ℕ) → marks rows j x ≡ rows i x
  marks_at rows i j b k x = ap (mark_at rows x) k.new ∙ ap (λ (n : ℕ). rows n x) (old_place f fits a y can i j b k)

  -- a block that isn't the entry is met
  met : (rows : ℕ → ℕ → Bool) (i x : ℕ) → nat_eq i 0 ≡ false → Justified (availability f) rows i x (entry_row i (parameters f)) → AtEnds (availability f) rows x (edges f i)
  met rows i x e h = subst (λ (t : Bool). Justified (availability f) rows i x (if t then Some (holds (parameters f)) else None)) e h

  -- what is there at the start of the second block is there at the end of the first
  at_first : (rows : ℕ → ℕ → Bool) (x : ℕ) → IsJustified (availability f) rows → rows behind x ≡ true → (i : ℕ) (b : Block) → slice_get f.blocks i ≡ Some b → nat_eq a.number b.number ≡ true
      → (rows i x ≡ true) ⊎ (holds (definitions b) x ≡ true)
  at_first rows x just mark i b at e =
      by (or_cases (rows i x) (defined_in (slice_get f.blocks i) x)
      (at_end (availability f) rows x i (edges f behind) (met rows behind x (ne_eqb behind 0 (λ s. omega (arith, s))) (just behind x mark).2) (first_leads f fits a y can i b at e)))
    where
      by : (rows i x ≡ true) ⊎ (defined_in (slice_get f.blocks i) x ≡ true) → (rows i x ≡ true) ⊎ (holds (definitions b) x ≡ true)
      by (inl h) = inl h
      by (inr h) = inr (sym (ap (λ (o : Option Block). defined_in o x) at) ∙ h)

  -- ---- what the second block's lines give, the first one's give

  lines_joined : (b : Block) → nat_eq a.number b.number ≡ true → (joined_block a.number y b).lines ≡ b.lines ++ y.lines
  lines_joined b e = ap (λ (t : Bool). if t then b.lines ++ y.lines else b.lines) e

  taken_over : (x : ℕ) (b : Block) → nat_eq a.number b.number ≡ true → holds (definitions y) x ≡ true → holds (definitions (joined_block a.number y b)) x ≡ true
  taken_over x b e h =
      list_any-append (nat_eq x) (phi_locals (joined_block a.number y b)) (results (joined_block a.number y b).lines)
      ∙ or_right (holds (phi_locals (joined_block a.number y b)) x) (holds (results (joined_block a.number y b).lines) x)
      (ap (λ (ls : List Line). holds (results ls) x) (lines_joined b e) ∙ ap (λ (l : List ℕ). holds l x) (results_both a.number y b.lines y.lines) ∙ list_any-append (nat_eq x) (results b.lines) (results y.lines)
      ∙ or_right (holds (results b.lines) x) (holds (results y.lines) x) (sym (ap (λ (ps : List Phi). holds (map (λ p. p.local) ps ++ results y.lines) x) can.no_phis) ∙ h))

  -- ---- families of marks

  abbrev Ends : (ℕ → ℕ → Bool) → ℕ → ℕ → Type 0
  Ends rows x q = (marks rows q x || defined_in (slice_get g.blocks q) x) ≡ true

  module _ (rows : ℕ → ℕ → Bool) (x : ℕ) (just : IsJustified (availability f) rows) where
    -- what holds at a block's end holds at its new end
    own_end : (p q : ℕ) (c : Block) → Moves p q c → (rows p x ≡ true) ⊎ (holds (definitions c) x ≡ true) → Ends rows x q
    own_end p q c k (inl e) = or_left (marks rows q x) (defined_in (slice_get g.blocks q) x) (marks_at rows p q c k x ∙ e)
    own_end p q c k (inr e) = or_right (marks rows q x) (defined_in (slice_get g.blocks q) x) (ap (λ (o : Option Block). defined_in o x) k.new ∙ still_defined a.number y x c e)

    -- and what holds at the second one's end holds at that of the first
    second_end : (p q : ℕ) (c : Block) → Moves p q c → nat_eq a.number c.number ≡ true → (rows behind x ≡ true) ⊎ (holds (definitions y) x ≡ true) → Ends rows x q
    second_end p q c k e (inl h) = own_end p q c k (at_first rows x just h p c k.old e)
    second_end p q c k e (inr h) = or_right (marks rows q x) (defined_in (slice_get g.blocks q) x) (ap (λ (o : Option Block). defined_in o x) k.new ∙ taken_over x c e h)

    old_end : (i p : ℕ) (c : Block) → slice_get f.blocks p ≡ Some c → AtEnds (availability f) rows x (edges f i) → Among p (edges f i) → (rows p x ≡ true) ⊎ (holds (definitions c) x ≡ true)
    old_end i p c at h leads = by (or_cases (rows p x) (defined_in (slice_get f.blocks p) x) (at_end (availability f) rows x p (edges f i) h leads))
      where
        by : (rows p x ≡ true) ⊎ (defined_in (slice_get f.blocks p) x ≡ true) → (rows p x ≡ true) ⊎ (holds (definitions c) x ≡ true)
        by (inl e) = inl e
        by (inr e) = inr (sym (ap (λ (o : Option Block). defined_in o x) at) ∙ e)

    old_edge : (i p : ℕ) (b c : Block) → slice_get f.blocks i ≡ Some b → slice_get f.blocks p ≡ Some c → 1 ≤ times b.number (successors c.end) → Among p (edges f i)
    old_edge i p b c at at_p some = let many : times p (edges f i) ≡ times b.number (successors c.end) = edges_from f i b at p ∙ ap (out_to b.number) at_p in among_times p (edges f i) (omega (arith, many, some))

    pred_end : (i j : ℕ) (b : Block) → Moves i j b → AtEnds (availability f) rows x (edges f i) → (q : ℕ) → 1 ≤ times q (edges g j) → Ends rows x q
    pred_end i j b k h q some = by (slice_get g.blocks q) refl
      where
        many : times q (edges g j) ≡ out_to b.number (slice_get g.blocks q)
        many = edges_from g j (joined_block a.number y b) k.new q

        moved : (p : ℕ) (c : Block) → Moves p q c → (t : Bool) → nat_eq a.number c.number ≡ t → times q (edges g j) ≡ times b.number (successors (if t then y.end else c.end)) → Ends rows x q
        moved p c from true e leads = second_end p q c from e (old_end i behind y at_behind h (old_edge i behind b y k.old at_behind (omega (arith, some, leads))))
        moved p c from false e leads = own_end p q c from (old_end i p c from.old h (old_edge i p b c k.old from.old (omega (arith, some, leads))))

        by : (o : Option Block) → slice_get g.blocks q ≡ o → Ends rows x q
        by None e = let none : times q (edges g j) ≡ 0 = many ∙ ap (out_to b.number) e in absurd (omega (arith, some, none))
        by (Some d) e =
            let from : (p : ℕ) × (c : Block) × (d ≡ joined_block a.number y c) × Moves p q c = stays_at f fits a y can q d e in
            moved from.0 from.1 from.3 (nat_eq a.number from.1.number) refl (many ∙ ap (out_to b.number) from.3.new)

    ends_from : (qs : List ℕ) → ((q : ℕ) → Among q qs → Ends rows x q) → AtEnds (availability g) (marks rows) x qs
    ends_from qs h = at_ends (availability g) (marks rows) x qs h

    justified_at : (i j : ℕ) (b : Block) → Moves i j b → Justified (availability f) rows i x (entry_row i (parameters f)) → Justified (availability g) (marks rows) j x (entry_row j (parameters f))
    justified_at i j b k = at (nat_eq i 0) (nat_eq j 0) (same_entry f fits a y can i j b k)
      where
        at : (s t : Bool) → s ≡ t → Justified (availability f) rows i x (if s then Some (holds (parameters f)) else None) → Justified (availability g) (marks rows) j x (if t then Some (holds (parameters f)) else None)
        at true true e h = h
        at true false e h = absurd (cc e)
        at false true e h = absurd (cc e)
        at false false e h = ends_from (edges g j) (λ q among. pred_end i j b k h q (times_among q (edges g j) among))

  family_stays : (rows : ℕ → ℕ → Bool) → IsJustified (availability f) rows → IsJustified (availability g) (marks rows)
  family_stays rows just j x mark = by (slice_get g.blocks j) refl mark
    where
      by : (o : Option Block) → slice_get g.blocks j ≡ o → mark_at rows x o ≡ true → (j < length g.blocks) × (x < room (locals g)) × Justified (availability g) (marks rows) j x (entry_row j (parameters f))
      by None at m = absurd cc
      by (Some c) at m = from (stays_at f fits a y can j c at)
        where
          from : (i : ℕ) × (b : Block) × (c ≡ joined_block a.number y b) × Moves i j b → (j < length g.blocks) × (x < room (locals g)) × Justified (availability g) (marks rows) j x (entry_row j (parameters f))
          from (i, b, is, k) =
              let old : place f.blocks c.number ≡ i = ap (λ (z : Block). place f.blocks z.number) is ∙ old_place f fits a y can i j b k in
              let was : (i < length f.blocks) × (x < room (locals f)) × Justified (availability f) rows i x (entry_row i (parameters f)) = just i x (ap (λ (n : ℕ). rows n x) (sym old) ∙ m) in
              let below : x < room (locals f) = was.1 in
              let wide : room (locals f) ≤ room (locals g) = room_stays f fits a y can once in
              (slice_get_within g.blocks j c at, omega (arith, below, wide), justified_at rows x just i j b k was.2)

  -- ---- at points

  available_stays : (i j : ℕ) (b : Block) → Moves i j b → (x : ℕ) → Available f i x → Available g j x
  available_stays i j b k x (rows, just, mark) = (marks rows, family_stays rows just, marks_at rows i j b k x ∙ mark)

  before_line : (n x : ℕ) (b : Block) → holds (phi_locals b ++ results (take n b.lines)) x ≡ true → holds (phi_locals (joined_block a.number y b) ++ results (take n (joined_block a.number y b).lines)) x ≡ true
  before_line n x b =
      holds_more x (phi_locals b) (results (take n b.lines)) (phi_locals (joined_block a.number y b)) (results (take n (joined_block a.number y b).lines))
      (λ h. ap (λ (l : List ℕ). holds l x) (phi_locals_stay a.number y b) ∙ h) (by (nat_eq a.number b.number))
    where
      by : (t : Bool) → holds (results (take n b.lines)) x ≡ true → holds (results (take n (if t then b.lines ++ y.lines else b.lines))) x ≡ true
      by true h = results_front x n b.lines y.lines h
      by false h = h

  pub available_at_stays : (i j : ℕ) (b : Block) → Moves i j b → (n x : ℕ) → AvailableAt f i n x → AvailableAt g j n x
  available_at_stays i j b k n x (inl h) = inl (available_stays i j b k x h)
  available_at_stays i j b k n x (inr h) = inr (ap (λ (o : Option Block). defined_before o n x) k.new ∙ before_line n x b (sym (ap (λ (o : Option Block). defined_before o n x) k.old) ∙ h))

  -- the lines of the second block come behind those of the first
  behind_lines : (n x : ℕ) (b : Block) → nat_eq a.number b.number ≡ true → (holds (definitions b) x ≡ true) ⊎ (holds (results (take n y.lines)) x ≡ true)
      → holds (phi_locals (joined_block a.number y b) ++ results (take (length b.lines + n) (joined_block a.number y b).lines)) x ≡ true
  behind_lines n x b e h =
      ap (λ (ls : List Line). holds (phi_locals (joined_block a.number y b) ++ results (take (length b.lines + n) ls)) x) (lines_joined b e)
      ∙ ap (λ (ls : List Line). holds (phi_locals (joined_block a.number y b) ++ results ls) x) (take_behind n b.lines y.lines)
      ∙ ap (λ (l : List ℕ). holds (l ++ results (b.lines ++ take n y.lines)) x) (phi_locals_stay a.number y b)
      ∙ by h
    where
      by : (holds (definitions b) x ≡ true) ⊎ (holds (results (take n y.lines)) x ≡ true) → holds (phi_locals b ++ results (b.lines ++ take n y.lines)) x ≡ true
      by (inl d) =
          holds_more x (phi_locals b) (results b.lines) (phi_locals b) (results (b.lines ++ take n y.lines)) (λ p. p)
          (λ r. ap (λ (l : List ℕ). holds l x) (results_both a.number y b.lines (take n y.lines)) ∙ list_any-append (nat_eq x) (results b.lines) (results (take n y.lines)) ∙ or_left (holds (results b.lines) x) (holds (results (take n y.lines)) x) r) d
      by (inr d) =
          list_any-append (nat_eq x) (phi_locals b) (results (b.lines ++ take n y.lines))
          ∙ or_right (holds (phi_locals b) x) (holds (results (b.lines ++ take n y.lines)) x)
          (ap (λ (l : List ℕ). holds l x) (results_both a.number y b.lines (take n y.lines)) ∙ list_any-append (nat_eq x) (results b.lines) (results (take n y.lines)) ∙ or_right (holds (results b.lines) x) (holds (results (take n y.lines)) x) d)

  pub available_behind : (i j : ℕ) (b : Block) → Moves i j b → nat_eq a.number b.number ≡ true → (n x : ℕ) → AvailableAt f behind n x → AvailableAt g j (length b.lines + n) x
  available_behind i j b k e n x (inl (rows, just, mark)) = by (at_first rows x just mark i b k.old e)
    where
      by : (rows i x ≡ true) ⊎ (holds (definitions b) x ≡ true) → AvailableAt g j (length b.lines + n) x
      by (inl h) = inl (available_stays i j b k x (rows, just, h))
      by (inr h) = inr (ap (λ (o : Option Block). defined_before o (length b.lines + n) x) k.new ∙ behind_lines n x b e (inl h))
  available_behind i j b k e n x (inr h) =
      inr (ap (λ (o : Option Block). defined_before o (length b.lines + n) x) k.new ∙ behind_lines n x b e (inr own))
    where
      own : holds (results (take n y.lines)) x ≡ true
      own = sym (ap (λ (ps : List Phi). holds (map (λ p. p.local) ps ++ results (take n y.lines)) x) can.no_phis) ∙ sym (ap (λ (o : Option Block). defined_before o n x) at_behind) ∙ h

  -- ---- at ends

  -- what is available at the end of the block at one place is available in the joined function at the end of the block at another
  abbrev pub Carries : ℕ → ℕ → Type 0
  Carries i j = (x : ℕ) → AvailableAtEnd f i x → AvailableAtEnd g j x

  all_lines : (x : ℕ) (b : Block) → defined_before (Some b) (line_count (Some b)) x ≡ holds (definitions b) x
  all_lines x b = ap (λ (ls : List Line). holds (phi_locals b ++ results ls) x) (take_all (length b.lines) b.lines (omega arith))

  pub carries : (i j : ℕ) (b : Block) → Moves i j b → Carries i j
  carries i j b k x (inl h) = inl (available_stays i j b k x h)
  carries i j b k x (inr h) =
      inr (ap (λ (o : Option Block). defined_before o (line_count o) x) k.new ∙ all_lines x (joined_block a.number y b)
      ∙ still_defined a.number y x b (sym (all_lines x b) ∙ sym (ap (λ (o : Option Block). defined_before o (line_count o) x) k.old) ∙ h))

  pub carries_behind : (i j : ℕ) (b : Block) → Moves i j b → nat_eq a.number b.number ≡ true → Carries behind j
  carries_behind i j b k e x h =
      subst (λ (n : ℕ). AvailableAt g j n x) (sym (ap line_count k.new ∙ ap length (lines_joined b e) ∙ length-append b.lines y.lines))
      (available_behind i j b k e (length y.lines) x (subst (λ (n : ℕ). AvailableAt f behind n x) (ap line_count at_behind) h))

  -- ---- blocks that are named

  -- a block of the function is there under its new name, and what is available at its end is available there
  pub named : (n : ℕ) → IsBlock f n → IsBlock g (renamed y.number a.number n) × Carries (place f.blocks n) (place g.blocks (renamed y.number a.number n))
  named n h = by (nat_eq y.number n) refl
    where
      other : (i : ℕ) × (b : Block) × (slice_get f.blocks i ≡ Some b) × (b.number ≡ n) → nat_eq y.number n ≡ false → IsBlock g n × Carries (place f.blocks n) (place g.blocks n)
      other (i, b, at, number) e =
          let there : (j : ℕ) × Moves i j b = stays_from f fits a y can i b at (ap (nat_eq y.number) number ∙ e) in (
            subst (λ (m : ℕ). IsBlock g m) number (number_there g.blocks there.0 (joined_block a.number y b) there.1.new),
            subst (λ (m : ℕ). Carries (place f.blocks m) (place g.blocks m)) number
                (subst (λ (p : ℕ). Carries p (place g.blocks b.number)) (sym (old_place f fits a y can i there.0 b there.1))
                (subst (λ (q : ℕ). Carries i q) (sym (new_place f fits a y can i there.0 b there.1)) (carries i there.0 b there.1))),
          )

      gone : nat_eq y.number n ≡ true → IsBlock g a.number × Carries (place f.blocks n) (place g.blocks a.number)
      gone e =
          let kept : (j : ℕ) × Moves can.first.0 j a = first f fits a y can in (
            number_there g.blocks kept.0 (joined_block a.number y a) kept.1.new,
            subst (λ (p : ℕ). Carries p (place g.blocks a.number)) (sym (ap (place f.blocks) (sym (eqb-true y.number n e)) ∙ place_is f.blocks fits.once behind y at_behind))
                (subst (λ (q : ℕ). Carries behind q) (sym (new_place f fits a y can can.first.0 kept.0 a kept.1)) (carries_behind can.first.0 kept.0 a kept.1 (eq-eqb a.number a.number refl))),
          )

      by : (t : Bool) → nat_eq y.number n ≡ t → IsBlock g (if t then a.number else n) × Carries (place f.blocks n) (place g.blocks (if t then a.number else n))
      by true e = gone e
      by false e = other (block_named f.blocks n h) e
