-- Where blocks are clear, each use is covered by smaller sets: neither what a block defines is in its own set, nor what isn't to be read
-- there.
use Rattle.std.proofs.Common.{◌≡◌, ℕ, zero, suc, ◌+◌, nat_eq, ◌⊎◌, ◌||◌, if◌then◌else◌, inl, inr, Bool, true, false, List, [], ◌∷◌, Option, Some, None, refl, sym, ◌∙◌, ap, subst, arith}
use Rattle.std.specs.Prelude.{slice_get, flat_map, ◌&&◌, not}
use Rattle.std.proofs.lemmas.Bool.{and_from, and_parts, eqb-true, false≢true, or_cases, or_left, or_right}
use Rattle.ir_tree.specs.Flow.{Among, IsJustified, Justified, availability, defined_in, definitions, edges, holds, parameters, phi_locals}
use Rattle.ir_tree.specs.Rules.{place}
use Rattle.ir_tree.specs.declared.block.Block.{Block}
use Rattle.ir_tree.specs.declared.function.Function.{Function}
use Rattle.ir_tree.specs.declared.instr.Incoming.{Incoming}
use Rattle.ir_tree.specs.declared.instr.Instr.{Instr}
use Rattle.ir_tree.specs.declared.instr.Line.{Line}
use Rattle.ir_tree.specs.declared.instr.Phi.{Phi}
use Rattle.ir_tree.specs.declared.operand.Operand.{Operand}
use Rattle.ir_meaning.specs.Facts.{is_phi}
use Rattle.ir_meaning.specs.Needed.{IsKept, UsesKept}
use Rattle.ir_flow.proofs.Solved.{at_end, at_ends}
use Rattle.ir_facts.specs.Candidates.{phi_candidates}
use Rattle.fact_sources.specs.Apart.{defined, is_listed}
use Rattle.ir_facts.specs.Clear.{IsClear, all_inner, all_over, any_among, barred, block_clear, blocks_clear, entries_barred, given_by, is_barred, is_taken, lines_clear, phis_barred, with_given}
use Rattle.fact_sources.specs.Membership.{beside}
use Rattle.fact_sources.specs.Naming.{end_names, instr_names}
use Rattle.ir_facts.proofs.Blocks.{find_at}
use Rattle.ir_facts.proofs.Covers.{BlockCovered, Covers, EdgesCovered, LinesCovered, PhisCovered, TakenAt, closing, named, opening, with_named}
use Rattle.ir_facts.proofs.Holding.{phi_held}
use Rattle.ir_facts.proofs.Matching.{apart_left, locals_once}
use Rattle.ir_facts.proofs.Reading.{end_into, instr_into, operand_into}
use Rattle.ir_facts.proofs.Substituting.{in_blocks}
use Rattle.fact_sources.proofs.Neither.{neither}

not_false : (a : Bool) → not a ≡ true → a ≡ false
not_false true h = absurd (false≢true h)
not_false false h = refl

-- ---- lines

module _ (bar own : ℕ → Bool) where
  -- of what is there, what these lines may read is left
  record Left (s t front : ℕ → Bool) : Type 0 where
    behind : (x : ℕ) → front x ≡ true → t x ≡ true
    apart : (x : ℕ) → s x ≡ true → own x ≡ false → bar x ≡ false → t x ≡ true

  abbrev other : (ℕ → Bool) → ℕ → Bool
  other s x = s x && not (bar x)

  left_there : (s t front : ℕ → Bool) → Left s t front → (x : ℕ) → other s x ≡ true → beside own front x ≡ false → t x ≡ true
  left_there s t front left x h g = by (own x) (front x) refl refl g
    where
      two : (s x ≡ true) × (not (bar x) ≡ true)
      two = and_parts (s x) (not (bar x)) h

      by : (o f : Bool) → own x ≡ o → front x ≡ f → (o && not f) ≡ false → t x ≡ true
      by true true o f g' = left.behind x f
      by true false o f g' = absurd (false≢true (sym g'))
      by false f o q g' = left.apart x two.0 o (not_false (bar x) two.1)

  line_left : (s t front : ℕ → Bool) → Left s t front → (i : Instr) → (instr_names bar i || instr_names (beside own front) i) ≡ false → UsesKept s i → UsesKept t i
  line_left s t front left i h k =
      let two = neither (instr_names bar i) (instr_names (beside own front) i) h in
      instr_into (other s) t (beside own front) (left_there s t front left) i two.1
      (instr_into s (other s) bar (λ x a b. and_from (s x) (not (bar x)) a (ap not b)) i two.0 k)

  left_on : (s t front : ℕ → Bool) → Left s t front → (o : Option ℕ) → Left (with_named s o) (with_named t o) (with_given front o)
  left_on s t front left o = record {
    behind = λ x h. elim (or_cases (front x) (given_by o x) h) [ inl a ↦ or_left (t x) (named o x) (left.behind x a) | inr b ↦ or_right (t x) (named o x) (by o x b) ];
    apart = λ x h out free. elim (or_cases (s x) (named o x) h) [ inl a ↦ or_left (t x) (named o x) (left.apart x a out free) | inr b ↦ or_right (t x) (named o x) b ];
  }
    where
      by : (o : Option ℕ) (x : ℕ) → given_by o x ≡ true → named o x ≡ true
      by None x h = h
      by (Some y) x h = h

  lines_left : (ls : List Line) (s t front : ℕ → Bool) → Left s t front → lines_clear bar own front ls ≡ true → LinesCovered s ls → LinesCovered t ls
  lines_left [] s t front left h cov = tt
  lines_left (l ∷ ls) s t front left h cov =
      let bad = instr_names bar l.instr || instr_names (beside own front) l.instr in
      let two = and_parts (not bad) (lines_clear bar own (with_given front l.local) ls) h in (
        cov.0,
        line_left s t front left l.instr (not_false bad two.0) cov.1,
        lines_left ls (with_named s l.local) (with_named t l.local) (with_given front l.local) (left_on s t front left l.local) two.1 cov.2,
      )

-- ---- blocks

module _ (bars : ℕ → ℕ → Bool) (place : ℕ → Option ℕ) where
  clear_from : (k : ℕ) (bs : List Block) → blocks_clear bars place k bs ≡ true → (p : ℕ) (b : Block) → slice_get bs p ≡ Some b → block_clear bars place (k + p) b ≡ true
  clear_from k [] h p b e = absurd (cc e)
  clear_from k (d ∷ bs) h zero b e =
      let is : d ≡ b = cc e in
      let here : k ≡ k + 0 = omega arith in
      (λ i. block_clear bars place (sym here i) (sym is i)) ∙ (and_parts (block_clear bars place k d) (blocks_clear bars place (suc k) bs) h).0
  clear_from k (d ∷ bs) h (suc p) b e =
      let here : k + suc p ≡ suc k + p = omega arith in
      ap (λ (q : ℕ). block_clear bars place q b) here ∙ clear_from (suc k) bs (and_parts (block_clear bars place k d) (blocks_clear bars place (suc k) bs) h).1 p b e

  pub record IsBlockClear (p : ℕ) (b : Block) : Type 0 where
    pub sources : any_among (defined b) (phi_candidates b.phis b.phis) ≡ false
    pub phis : phis_barred bars place b.phis ≡ false
    pub end : end_names (bars p) b.end ≡ false
    pub lines : lines_clear (bars p) (defined b) (λ x. is_phi x b.phis) b.lines ≡ true

  clear_parts : (p : ℕ) (b : Block) → block_clear bars place p b ≡ true → IsBlockClear p b
  unfolding block_clear
  clear_parts p b h =
      let sourced = any_among (defined b) (phi_candidates b.phis b.phis) in
      let named' = phis_barred bars place b.phis || end_names (bars p) b.end in
      let lines' = lines_clear (bars p) (defined b) (λ x. is_phi x b.phis) b.lines in
      let two = and_parts (not sourced) (not named' && lines') h in
      let more = and_parts (not named') lines' two.1 in
      let parts = neither (phis_barred bars place b.phis) (end_names (bars p) b.end) (not_false named' more.0) in
      record { sources = not_false sourced two.0; phis = parts.0; end = parts.1; lines = more.1 }

-- a local that is to be read in a block
pub record MayRead (over : Bool) (home : Option ℕ) (above : ℕ → ℕ → Bool) (p : ℕ) : Type 0 where
  pub at : ℕ
  pub is : home ≡ Some at
  pub where' : (at ≡ p) ⊎ ((over ≡ false) × (above at p ≡ true))

pub may_read : (over : Bool) (home : Option ℕ) (above : ℕ → ℕ → Bool) (p : ℕ) → is_barred true over home above p ≡ false → MayRead over home above p
may_read over None above p h = absurd (false≢true (sym h))
may_read over (Some q) above p h = record { at = q; is = refl; where' = by (or_cases (nat_eq q p) (not over && above q p) (not_not (nat_eq q p || (not over && above q p)) h)) }
  where
    not_not : (a : Bool) → not a ≡ false → a ≡ true
    not_not true e = refl
    not_not false e = absurd (false≢true (sym e))

    by : (nat_eq q p ≡ true) ⊎ ((not over && above q p) ≡ true) → (q ≡ p) ⊎ ((over ≡ false) × (above q p ≡ true))
    by (inl e) = inl (eqb-true q p e)
    by (inr h') = let two = and_parts (not over) (above q p) h' in inr (not_false over two.0, two.1)

module _ (among : ℕ → Bool) (r : ℕ → ℕ → Bool) (f : Function) (cov : Covers r f) (is : IsClear among f) where
  abbrev pub inner : ℕ → Bool
  inner x = is_listed x (all_inner among f.blocks)

  abbrev pub over : ℕ → Bool
  over x = is_listed x (all_over is.at is.above 0 f.blocks)

  abbrev pub bars : ℕ → ℕ → Bool
  bars = barred inner over is.at is.above

  abbrev pub thin : ℕ → ℕ → Bool
  thin p x = r p x && not (bars p x || defined_in (slice_get f.blocks p) x)

  pub clear_at : (p : ℕ) (b : Block) → slice_get f.blocks p ≡ Some b → IsBlockClear bars is.place p b
  clear_at p b e =
      let here : 0 + p ≡ p = omega arith in
      clear_parts bars is.place p b (ap (λ (q : ℕ). block_clear bars is.place q b) (sym here) ∙ clear_from bars is.place 0 f.blocks is.clear p b e)

  pub record Thin (p x : ℕ) : Type 0 where
    pub there : r p x ≡ true
    pub free : bars p x ≡ false
    pub apart : defined_in (slice_get f.blocks p) x ≡ false

  pub thin_parts : (p x : ℕ) → thin p x ≡ true → Thin p x
  thin_parts p x h =
      let two = and_parts (r p x) (not (bars p x || defined_in (slice_get f.blocks p) x)) h in
      let more = neither (bars p x) (defined_in (slice_get f.blocks p) x) (not_false (bars p x || defined_in (slice_get f.blocks p) x) two.1) in
      record { there = two.0; free = more.0; apart = more.1 }

  thin_from : (p x : ℕ) → r p x ≡ true → bars p x ≡ false → defined_in (slice_get f.blocks p) x ≡ false → thin p x ≡ true
  thin_from p x h i d = and_from (r p x) (not (bars p x || defined_in (slice_get f.blocks p) x)) h (λ j. not (i j || d j))

  -- at a block's end
  out_thin : (p x : ℕ) → (r p x ≡ true → bars p x ≡ false) → (r p x || defined_in (slice_get f.blocks p) x) ≡ true → (thin p x || defined_in (slice_get f.blocks p) x) ≡ true
  out_thin p x i h = by (defined_in (slice_get f.blocks p) x) refl
    where
      by : (t : Bool) → defined_in (slice_get f.blocks p) x ≡ t → (thin p x || defined_in (slice_get f.blocks p) x) ≡ true
      by true d = or_right (thin p x) (defined_in (slice_get f.blocks p) x) d
      by false d =
          elim (or_cases (r p x) (defined_in (slice_get f.blocks p) x) h) [
            | inl a ↦ or_left (thin p x) (defined_in (slice_get f.blocks p) x) (thin_from p x a (i a) d)
            | inr b ↦ absurd (false≢true (sym d ∙ b))
          ]

  closing_thin : (p : ℕ) (b : Block) → slice_get f.blocks p ≡ Some b → (x : ℕ) → closing r p b x ≡ true → bars p x ≡ false → closing thin p b x ≡ true
  closing_thin p b e x h out =
      subst (λ (o : Option Block). (thin p x || defined_in o x) ≡ true) e
      (out_thin p x (λ there. out) (subst (λ (o : Option Block). (r p x || defined_in o x) ≡ true) (sym e) h))

  taken_thin : (n : ℕ) (o : Operand) → is_taken bars (is.place n) o ≡ false → TakenAt r f n o → TakenAt thin f n o
  taken_thin n o out t = record {
    place = t.place;
    block = t.block;
    found = t.found;
    number = t.number;
    kept = by (is.place n) refl out;
  }
    where
      by : (m : Option ℕ) → is.place n ≡ m → is_taken bars m o ≡ false → IsKept (closing thin t.place t.block) o
      by None q h = absurd (false≢true (sym h))
      by (Some p) q h =
          let at = is.numbered n p q in
          let same : p ≡ t.place =
          sym (find_at f cov.once p at.block at.found).1
          ∙ ap (place f.blocks) (at.number ∙ sym t.number)
          ∙ (find_at f cov.once t.place t.block t.found).1 in
          operand_into (closing r t.place t.block) (closing thin t.place t.block) (bars p)
          (λ x k i. closing_thin t.place t.block t.found x k (ap (λ (j : ℕ). bars j x) (sym same) ∙ i)) o h t.kept

  edges_thin : (es : List Incoming) → entries_barred bars is.place es ≡ false → EdgesCovered r f es → EdgesCovered thin f es
  edges_thin [] h t = tt
  edges_thin (e ∷ es) h t =
      let two = neither (is_taken bars (is.place e.from) e.value) (entries_barred bars is.place es) h in
      (taken_thin e.from e.value two.0 t.0, edges_thin es two.1 t.1)

  phis_thin : (ps : List Phi) → phis_barred bars is.place ps ≡ false → PhisCovered r f ps → PhisCovered thin f ps
  phis_thin [] h t = tt
  phis_thin (p ∷ ps) h t =
      let two = neither (entries_barred bars is.place p.incoming) (phis_barred bars is.place ps) h in
      (edges_thin p.incoming two.0 t.0, phis_thin ps two.1 t.1)

  open_left : (p : ℕ) (b : Block) → slice_get f.blocks p ≡ Some b → Left (bars p) (defined b) (opening r p b) (opening thin p b) (λ x. is_phi x b.phis)
  open_left p b e = record {
    behind = λ x h. or_right (thin p x) (holds (phi_locals b) x) (sym (phi_held x b.phis) ∙ h);
    apart = λ x h out free. elim (or_cases (r p x) (holds (phi_locals b) x) h) [
      | inl a ↦ or_left (thin p x) (holds (phi_locals b) x) (thin_from p x a free (ap (λ (o : Option Block). defined_in o x) e ∙ out))
      | inr g ↦ or_right (thin p x) (holds (phi_locals b) x) g
    ];
  }

  block_thin : (p : ℕ) (b : Block) → slice_get f.blocks p ≡ Some b → BlockCovered thin f p b
  block_thin p b e =
      let cover = cov.blocks p b e in
      let own = clear_at p b e in
      record {
        phis = phis_thin b.phis own.phis cover.phis;
        lines = lines_left (bars p) (defined b) b.lines (opening r p b) (opening thin p b) (λ x. is_phi x b.phis) (open_left p b e) own.lines cover.lines;
        end = end_into (closing r p b) (closing thin p b) (bars p) (closing_thin p b e) b.end own.end cover.end;
        entered = cover.entered;
      }

  -- ---- edges

  -- a local that a block defines is no parameter
  no_parameter : (p x : ℕ) → defined_in (slice_get f.blocks p) x ≡ true → holds (parameters f) x ≡ false
  no_parameter p x h = by (slice_get f.blocks p) refl h
    where
      by : (o : Option Block) → slice_get f.blocks p ≡ o → defined_in o x ≡ true → holds (parameters f) x ≡ false
      by None e h' = absurd (false≢true h')
      by (Some b) e h' = apart_left x (parameters f) (flat_map definitions f.blocks) (locals_once f cov.once x) (in_blocks f.blocks p b x e h')

  -- what is to be read in a block that doesn't define it is to be read in the block's predecessors
  bars_back : (p q x : ℕ) → Among p (edges f q) → bars q x ≡ false → defined_in (slice_get f.blocks q) x ≡ false → r p x ≡ true → bars p x ≡ false
  bars_back p q x edge free out there = by (inner x) refl free
    where
      not_home : (h : ℕ) → is.at x ≡ Some h → h ≡ q → ⊥
      not_home h e same = false≢true (sym out ∙ ap (λ (i : ℕ). defined_in (slice_get f.blocks i) x) (sym same) ∙ is.placed x h e)

      not_entry : (h : ℕ) → is.at x ≡ Some h → p ≡ 0 → ⊥
      not_entry h e zero' =
          false≢true (sym (no_parameter h x (is.placed x h e)) ∙ (cov.justified 0 x (ap (λ (i : ℕ). r i x) (sym zero') ∙ there)).2)

      read : MayRead (over x) (is.at x) is.above q → is_barred true (over x) (is.at x) is.above p ≡ false
      read m =
          elim m.where' [
            | inl same ↦ absurd (not_home m.at m.is same)
            | inr two ↦
                ap (λ (o : Option ℕ). is_barred true (over x) o is.above p) m.is
                ∙ ap not (or_right (nat_eq m.at p) (not (over x) && is.above m.at p)
                (and_from (not (over x)) (is.above m.at p) (ap not two.0) (is.passed m.at q p two.1 (not_home m.at m.is) (not_entry m.at m.is) edge)))
          ]

      by : (t : Bool) → inner x ≡ t → is_barred t (over x) (is.at x) is.above q ≡ false → is_barred t (over x) (is.at x) is.above p ≡ false
      by false e h = refl
      by true e h = read (may_read (over x) (is.at x) is.above q h)

  justified_thin : IsJustified (availability f) thin
  justified_thin q y m =
      let parts = thin_parts q y m in
      let j = cov.justified q y parts.there in
      (j.0, j.1, by parts.free parts.apart (nat_eq q 0) j.2)
    where
      by : bars q y ≡ false → defined_in (slice_get f.blocks q) y ≡ false → (t : Bool) → Justified (availability f) r q y (if t then Some (holds (parameters f)) else None)
          → Justified (availability f) thin q y (if t then Some (holds (parameters f)) else None)
      by i o true j = j
      by i o false j = at_ends (availability f) thin y (edges f q) (λ p edge. out_thin p y (bars_back p q y edge i o) (at_end (availability f) r y p (edges f q) j edge))

  pub covers_thin : Covers thin f
  covers_thin = record {
    justified = justified_thin;
    blocks = block_thin;
    bare = cov.bare;
    once = cov.once;
  }
