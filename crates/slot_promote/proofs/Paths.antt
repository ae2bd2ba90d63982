-- A local that is no slot is available in the promoted function where it was in the function.
use Rattle.std.proofs.Common.{◌≡◌, ℕ, zero, suc, ◌+◌, ◌<◌, nat_eq, Bool, true, false, not, ◌&&◌, ◌||◌, List, [], ◌∷◌, ◌++◌, length, take, map, Option, Some, None, option_map, ◌⊎◌, inl, inr, refl, sym, ◌∙◌, ap, subst, arith, if◌then◌else◌}
use Rattle.std.specs.Prelude.{slice_get, flat_map}
use Rattle.std.proofs.lemmas.Bool.{and_from as and_both, not_from_false as not_false, or_cases, or_left, or_right}
use Rattle.ir_tree.specs.Flow.{AtEnds, Available, AvailableAt, IsJustified, Justified, availability, defined_before, defined_in, definitions, edges, entry_row, holds, locals, parameters, phi_locals, results, room}
use Rattle.ir_tree.specs.declared.block.Block.{Block}
use Rattle.ir_tree.specs.declared.function.Function.{Function}
use Rattle.ir_tree.specs.declared.instr.Line.{Line}
use Rattle.ir_meaning.specs.Promote.{Current}
use Rattle.slot_promote.specs.Promoted.{first_at, promoted_with}
use Rattle.slot_promote.specs.Values.{at_start, behind_lines, is_there, placed, without_slots}
use Rattle.promotable_slots.specs.declared.slots.Slot.{Slot}
use Rattle.slot_promote.proofs.Edges.{has_room}
use Rattle.slot_promote.proofs.Lines.{AllTidy, both, phis_before, phis_behind, results_stay, taken, tidy_front}
use Rattle.slot_promote.proofs.Once.{news}
use Rattle.slot_promote.proofs.Plans.{results_grow}
use Rattle.slot_promote.proofs.Shapes.{block_at, edges_stay, promoted_at, promoted_from}
use Rattle.slot_promote.proofs.Tests.{and_left, and_right, not_true}
use Rattle.ir_edit.proofs.Holding.{holds_back, holds_either, holds_front}

in_blocks : (v : ℕ) (bs : List Block) (b : ℕ) (block : Block) → slice_get bs b ≡ Some block → holds (definitions block) v ≡ true → holds (flat_map definitions bs) v ≡ true
in_blocks v [] b block found h = absurd cc
in_blocks v (x ∷ bs) zero block found h =
    let same : x ≡ block = cc found in
    holds_front v (definitions x) (flat_map definitions bs) (subst (λ (y : Block). holds (definitions y) v ≡ true) (sym same) h)
in_blocks v (x ∷ bs) (suc b) block found h = holds_back v (definitions x) (flat_map definitions bs) (in_blocks v bs b block found h)

module _ (f : Function) (ss : List Slot) (n : ℕ) (tidy : (b : ℕ) (block : Block) → slice_get f.blocks b ≡ Some block → AllTidy (placed 0 ss) block.lines) where
  abbrev g : Function
  g = promoted_with f ss n

  abbrev IsOut : ℕ → Type 0
  IsOut x = is_there (placed 0 ss x) ≡ false

  definitions_stay : (p : ℕ) (b : Block) → slice_get f.blocks p ≡ Some b → (x : ℕ) → IsOut x → holds (definitions b) x ≡ true → holds (definitions (promoted_at f ss n p b)) x ≡ true
  definitions_stay p b found x out h = by (holds_either x (phi_locals b) (results b.lines) h)
    where
      by : (holds (phi_locals b) x ≡ true) ⊎ (holds (results b.lines) x ≡ true) → holds (definitions (promoted_at f ss n p b)) x ≡ true
      by (inl e) = holds_front x (phi_locals (promoted_at f ss n p b)) (results (promoted_at f ss n p b).lines) (phis_behind x (news f ss n p) b.phis e)
      by (inr e) =
          holds_back x (phi_locals (promoted_at f ss n p b)) (results (promoted_at f ss n p b).lines)
          (results_stay (placed 0 ss) x out (at_start (placed 0 ss) (first_at f ss n p)) b.lines (tidy p b found) e)

  defined_stays : (p x : ℕ) → IsOut x → defined_in (slice_get f.blocks p) x ≡ true → defined_in (slice_get g.blocks p) x ≡ true
  defined_stays p x out h = ap (λ (o : Option Block). defined_in o x) (block_at f ss n p) ∙ by (slice_get f.blocks p) refl h
    where
      by : (o : Option Block) → slice_get f.blocks p ≡ o → defined_in o x ≡ true → defined_in (option_map (promoted_at f ss n p) o) x ≡ true
      by None found k = k
      by (Some b) found k = definitions_stay p b found x out k

  blocks_stay : (x : ℕ) → IsOut x → (s : ℕ) (bs : List Block) → ((i : ℕ) → slice_get f.blocks (s + i) ≡ slice_get bs i) → holds (flat_map definitions bs) x ≡ true → holds (flat_map definitions (promoted_from f ss n s bs)) x ≡ true
  blocks_stay x out s [] same h = h
  blocks_stay x out s (b ∷ bs) same h =
      by (holds_either x (definitions b) (flat_map definitions bs) h) (blocks_stay x out (suc s) bs (λ i. ap (slice_get f.blocks) (omega arith) ∙ same (suc i)))
    where
      by : (holds (definitions b) x ≡ true) ⊎ (holds (flat_map definitions bs) x ≡ true) → (holds (flat_map definitions bs) x ≡ true → holds (flat_map definitions (promoted_from f ss n (suc s) bs)) x ≡ true)
          → holds (definitions (promoted_at f ss n s b) ++ flat_map definitions (promoted_from f ss n (suc s) bs)) x ≡ true
      by (inl e) more =
          holds_front x (definitions (promoted_at f ss n s b)) (flat_map definitions (promoted_from f ss n (suc s) bs))
          (definitions_stay s b (ap (slice_get f.blocks) (omega arith) ∙ same 0) x out e)
      by (inr e) more = holds_back x (definitions (promoted_at f ss n s b)) (flat_map definitions (promoted_from f ss n (suc s) bs)) (more e)

  pub local_stays : (x : ℕ) → IsOut x → holds (locals f) x ≡ true → holds (locals g) x ≡ true
  local_stays x out h = by (holds_either x (parameters f) (flat_map definitions f.blocks) h)
    where
      by : (holds (parameters f) x ≡ true) ⊎ (holds (flat_map definitions f.blocks) x ≡ true) → holds (locals g) x ≡ true
      by (inl e) = holds_front x (parameters f) (flat_map definitions g.blocks) e
      by (inr e) = holds_back x (parameters f) (flat_map definitions g.blocks) (blocks_stay x out 0 f.blocks (λ i. ap (slice_get f.blocks) (omega arith)) e)

  from_length : (s : ℕ) (bs : List Block) → length (promoted_from f ss n s bs) ≡ length bs
  from_length s [] = refl
  from_length s (b ∷ bs) = ap suc (from_length (suc s) bs)

  -- ---- marks

  abbrev stays : ℕ → Bool
  stays x = not (is_there (placed 0 ss x)) && holds (locals f) x

  abbrev kept_marks : (ℕ → ℕ → Bool) → ℕ → ℕ → Bool
  kept_marks rows b x = rows b x && stays x

  mark_stays : (rows : ℕ → ℕ → Bool) (b x : ℕ) → stays x ≡ true → rows b x ≡ true → kept_marks rows b x ≡ true
  mark_stays rows b x kept mark = and_both (rows b x) (stays x) mark kept

  out_of : (x : ℕ) → stays x ≡ true → IsOut x
  out_of x kept = not_true (is_there (placed 0 ss x)) (and_left (not (is_there (placed 0 ss x))) (holds (locals f) x) kept)

  local_of : (x : ℕ) → stays x ≡ true → holds (locals f) x ≡ true
  local_of x kept = and_right (not (is_there (placed 0 ss x))) (holds (locals f) x) kept

  at_ends_stay : (rows : ℕ → ℕ → Bool) (x : ℕ) → stays x ≡ true → (ps : List ℕ) → AtEnds (availability f) rows x ps → AtEnds (availability g) (kept_marks rows) x ps
  at_ends_stay rows x kept [] h = tt
  at_ends_stay rows x kept (p ∷ ps) h = (at (or_cases (rows p x) (defined_in (slice_get f.blocks p) x) h.0), at_ends_stay rows x kept ps h.1)
    where
      at : (rows p x ≡ true) ⊎ (defined_in (slice_get f.blocks p) x ≡ true) → (kept_marks rows p x || defined_in (slice_get g.blocks p) x) ≡ true
      at (inl e) = or_left (kept_marks rows p x) (defined_in (slice_get g.blocks p) x) (mark_stays rows p x kept e)
      at (inr e) = or_right (kept_marks rows p x) (defined_in (slice_get g.blocks p) x) (defined_stays p x (out_of x kept) e)

  justified_stays : (rows : ℕ → ℕ → Bool) (b x : ℕ) → stays x ≡ true → Justified (availability f) rows b x (entry_row b (parameters f)) → Justified (availability g) (kept_marks rows) b x (entry_row b (parameters f))
  justified_stays rows b x kept = at (nat_eq b 0)
    where
      at : (t : Bool) → Justified (availability f) rows b x (if t then Some (holds (parameters f)) else None)
          → Justified (availability g) (kept_marks rows) b x (if t then Some (holds (parameters f)) else None)
      at true h = h
      at false h = subst (AtEnds (availability g) (kept_marks rows) x) (sym (edges_stay f ss n b)) (at_ends_stay rows x kept (edges f b) h)

  family_stays : (rows : ℕ → ℕ → Bool) → IsJustified (availability f) rows → IsJustified (availability g) (kept_marks rows)
  family_stays rows just b x mark =
      let kept : stays x ≡ true = and_right (rows b x) (stays x) mark in
      let old : (b < length f.blocks) × (x < room (locals f)) × Justified (availability f) rows b x (entry_row b (parameters f)) = just b x (and_left (rows b x) (stays x) mark) in (
        subst (λ (m : ℕ). b < m) (sym (from_length 0 f.blocks)) old.0,
        has_room (locals g) x (local_stays x (out_of x kept) (local_of x kept)),
        justified_stays rows b x kept old.2,
      )

  pub available_stays : (b x : ℕ) → IsOut x → holds (locals f) x ≡ true → Available f b x → Available g b x
  available_stays b x out there (rows, just, mark) =
      (kept_marks rows, family_stays rows just, mark_stays rows b x (and_both (not (is_there (placed 0 ss x))) (holds (locals f) x) (not_false (is_there (placed 0 ss x)) out) there) mark)

  -- ---- points

  module _ (b : ℕ) (block : Block) (found : slice_get f.blocks b ≡ Some block) where
    abbrev start : Current
    start = at_start (placed 0 ss) (first_at f ss n b)

    -- where what stands behind these lines comes to stand
    abbrev pub moved : List Line → ℕ
    moved front = length (without_slots (placed 0 ss) start front)

    pub found_new : slice_get g.blocks b ≡ Some (promoted_at f ss n b block)
    found_new = block_at f ss n b ∙ ap (option_map (promoted_at f ss n b)) found

    pub there_stays : (front rest : List Line) → block.lines ≡ front ++ rest → (x : ℕ) → IsOut x → holds (locals f) x ≡ true → AvailableAt f b (length front) x → AvailableAt g b (moved front) x
    there_stays front rest is x out there (inl h) = inl (available_stays b x out there h)
    there_stays front rest is x out there (inr h) =
        inr (ap (λ (o : Option Block). defined_before o (moved front) x) found_new ∙ by (holds_either x (phi_locals block) (results front) before))
      where
        before : holds (phi_locals block ++ results front) x ≡ true
        before =
            ap (λ (r : List Line). holds (phi_locals block ++ results r) x) (sym (ap (take (length front)) is ∙ taken front rest))
            ∙ ap (λ (o : Option Block). defined_before o (length front) x) (sym found) ∙ h

        new_front : take (moved front) (without_slots (placed 0 ss) start block.lines) ≡ without_slots (placed 0 ss) start front
        new_front =
            ap (λ (ls : List Line). take (moved front) (without_slots (placed 0 ss) start ls)) is
            ∙ ap (take (moved front)) (both (placed 0 ss) start front rest)
            ∙ taken (without_slots (placed 0 ss) start front) (without_slots (placed 0 ss) (behind_lines (placed 0 ss) start front) rest)

        by : (holds (phi_locals block) x ≡ true) ⊎ (holds (results front) x ≡ true) → holds (phi_locals (promoted_at f ss n b block) ++ results (take (moved front) (without_slots (placed 0 ss) start block.lines))) x ≡ true
        by (inl e) = holds_front x (phi_locals (promoted_at f ss n b block)) (results (take (moved front) (without_slots (placed 0 ss) start block.lines))) (phis_behind x (news f ss n b) block.phis e)
        by (inr e) =
            holds_back x (phi_locals (promoted_at f ss n b block)) (results (take (moved front) (without_slots (placed 0 ss) start block.lines)))
            (ap (λ (ls : List Line). holds (results ls) x) new_front
            ∙ results_stay (placed 0 ss) x out start front (tidy_front (placed 0 ss) front rest (subst (AllTidy (placed 0 ss)) is (tidy b block found))) e)

    -- a new phi is available everywhere in its block
    pub new_there : (v j : ℕ) → holds (map (λ p. p.local) (news f ss n b)) v ≡ true → AvailableAt g b j v
    new_there v j h =
        inr (ap (λ (o : Option Block). defined_before o j v) found_new
        ∙ holds_front v (phi_locals (promoted_at f ss n b block)) (results (take j (without_slots (placed 0 ss) start block.lines))) (phis_before v (news f ss n b) block.phis h))

    pub new_local : (v : ℕ) → holds (map (λ p. p.local) (news f ss n b)) v ≡ true → holds (locals g) v ≡ true
    new_local v h =
        holds_back v (parameters f) (flat_map definitions g.blocks)
        (in_blocks v g.blocks b (promoted_at f ss n b block) found_new (holds_front v (phi_locals (promoted_at f ss n b block)) (results (promoted_at f ss n b block).lines) (phis_before v (news f ss n b) block.phis h)))

  -- ---- later points

  pub one_later : (b j x : ℕ) → AvailableAt g b j x → AvailableAt g b (suc j) x
  one_later b j x (inl h) = inl h
  one_later b j x (inr h) = inr (by (slice_get g.blocks b) h)
    where
      by : (o : Option Block) → defined_before o j x ≡ true → defined_before o (suc j) x ≡ true
      by None k = k
      by (Some y) k = at (holds_either x (phi_locals y) (results (take j y.lines)) k)
        where
          at : (holds (phi_locals y) x ≡ true) ⊎ (holds (results (take j y.lines)) x ≡ true) → holds (phi_locals y ++ results (take (suc j) y.lines)) x ≡ true
          at (inl e) = holds_front x (phi_locals y) (results (take (suc j) y.lines)) e
          at (inr e) = holds_back x (phi_locals y) (results (take (suc j) y.lines)) (results_grow x j y.lines e)
