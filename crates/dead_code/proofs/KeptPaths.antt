-- A kept local that is available in a function is available in what is needed of it.
use Rattle.std.proofs.Common.{◌≡◌, ℕ, suc, ◌<◌, max, nat_eq, ◌&&◌, ◌||◌, ◌⊎◌, inl, inr, Bool, true, false, List, [], ◌∷◌, ◌++◌, Option, Some, None, option_map, length, refl, sym, ◌∙◌, ap, subst, arith, if◌then◌else◌}
use Rattle.std.specs.Prelude.{slice_get}
use Rattle.std.proofs.lemmas.List.{length-map, take_all}
use Rattle.ir_tree.specs.Flow.{AtEnds, Available, AvailableAt, AvailableAtEnd, IsJustified, Justified, availability, defined_before, defined_in, definitions, edges, entry_row, holds, line_count, locals, parameters, phi_locals, results, room}
use Rattle.ir_tree.specs.declared.block.Block.{Block}
use Rattle.ir_tree.specs.declared.function.Function.{Function}
use Rattle.ir_meaning.specs.Needed.{needed, needed_block}
use Rattle.dead_code.proofs.Kept.{block_at, blocks_are, definitions_stay, edges_stay, local_stays, or_cases, or_left, or_right, same_number}

both_true : (a b : Bool) → a ≡ true → b ≡ true → (a && b) ≡ true
both_true true b h g = g
both_true false b h g = absurd cc

first_true : (a b : Bool) → (a && b) ≡ true → a ≡ true
first_true true b h = refl
first_true false b h = absurd cc

second_true : (a b : Bool) → (a && b) ≡ true → b ≡ true
second_true true b h = h
second_true false b h = absurd cc

has_room : (xs : List ℕ) (x : ℕ) → holds xs x ≡ true → x < room xs
has_room [] x h = absurd cc
has_room (y ∷ ys) x h = at (or_cases (nat_eq x y) (holds ys x) h) (has_room ys x)
  where
    at : (nat_eq x y ≡ true) ⊎ (holds ys x ≡ true) → (holds ys x ≡ true → x < room ys) → x < max (suc y) (room ys)
    at (inl e) more = let same : x ≡ y = same_number x y e in omega (arith, same)
    at (inr g) more = let lt : x < room ys = more g in omega (arith, lt)

module _ (keeps : ℕ → Bool) (f : Function) where
  defined_stays : (o : Option Block) (x : ℕ) → keeps x ≡ true → defined_in o x ≡ true → defined_in (option_map (needed_block keeps) o) x ≡ true
  defined_stays None x kept h = h
  defined_stays (Some b) x kept h = definitions_stay keeps x kept b h

  defined_in_stays : (b x : ℕ) → keeps x ≡ true → defined_in (slice_get f.blocks b) x ≡ true → defined_in (slice_get (needed keeps f).blocks b) x ≡ true
  defined_in_stays b x kept h = ap (λ (o : Option Block). defined_in o x) (block_at keeps f.blocks b) ∙ defined_stays (slice_get f.blocks b) x kept h

  -- the marks of kept locals
  abbrev kept_marks : (ℕ → ℕ → Bool) → ℕ → ℕ → Bool
  kept_marks rows b x = rows b x && (keeps x && holds (locals f) x)

  mark_stays : (rows : ℕ → ℕ → Bool) (b x : ℕ) → keeps x ≡ true → holds (locals f) x ≡ true → rows b x ≡ true → kept_marks rows b x ≡ true
  mark_stays rows b x kept there mark = both_true (rows b x) (keeps x && holds (locals f) x) mark (both_true (keeps x) (holds (locals f) x) kept there)

  at_ends_stay : (rows : ℕ → ℕ → Bool) (x : ℕ) → keeps x ≡ true → holds (locals f) x ≡ true → (ps : List ℕ)
      → AtEnds (availability f) rows x ps → AtEnds (availability (needed keeps f)) (kept_marks rows) x ps
  at_ends_stay rows x kept there [] h = tt
  at_ends_stay rows x kept there (p ∷ ps) h = (at (or_cases (rows p x) (defined_in (slice_get f.blocks p) x) h.0), at_ends_stay rows x kept there ps h.1)
    where
      at : (rows p x ≡ true) ⊎ (defined_in (slice_get f.blocks p) x ≡ true) → (kept_marks rows p x || defined_in (slice_get (needed keeps f).blocks p) x) ≡ true
      at (inl e) = or_left (kept_marks rows p x) (defined_in (slice_get (needed keeps f).blocks p) x) (mark_stays rows p x kept there e)
      at (inr e) = or_right (kept_marks rows p x) (defined_in (slice_get (needed keeps f).blocks p) x) (defined_in_stays p x kept e)

  justified_stays : (rows : ℕ → ℕ → Bool) (b x : ℕ) → keeps x ≡ true → holds (locals f) x ≡ true
      → Justified (availability f) rows b x (entry_row b (parameters f)) → Justified (availability (needed keeps f)) (kept_marks rows) b x (entry_row b (parameters f))
  justified_stays rows b x kept there = at (nat_eq b 0)
    where
      at : (t : Bool) → Justified (availability f) rows b x (if t then Some (holds (parameters f)) else None)
          → Justified (availability (needed keeps f)) (kept_marks rows) b x (if t then Some (holds (parameters f)) else None)
      at true h = h
      at false h = subst (AtEnds (availability (needed keeps f)) (kept_marks rows) x) (sym (edges_stay keeps f b)) (at_ends_stay rows x kept there (edges f b) h)

  family_stays : (rows : ℕ → ℕ → Bool) → IsJustified (availability f) rows → IsJustified (availability (needed keeps f)) (kept_marks rows)
  family_stays rows just b x mark =
      let rest : (keeps x && holds (locals f) x) ≡ true = second_true (rows b x) (keeps x && holds (locals f) x) mark in
      let kept : keeps x ≡ true = first_true (keeps x) (holds (locals f) x) rest in
      let there : holds (locals f) x ≡ true = second_true (keeps x) (holds (locals f) x) rest in
      let old : (b < length f.blocks) × (x < room (locals f)) × Justified (availability f) rows b x (entry_row b (parameters f)) = just b x (first_true (rows b x) (keeps x && holds (locals f) x) mark) in (
        subst (λ (n : ℕ). b < n) (sym (ap length (blocks_are keeps f.blocks) ∙ length-map f.blocks (needed_block keeps))) old.0,
        has_room (locals (needed keeps f)) x (local_stays keeps f x kept there),
        justified_stays rows b x kept there old.2,
      )

  pub available_stays : (b x : ℕ) → keeps x ≡ true → holds (locals f) x ≡ true → Available f b x → Available (needed keeps f) b x
  available_stays b x kept there (rows, just, mark) = (kept_marks rows, family_stays rows just, mark_stays rows b x kept there mark)

  -- before the line k of a block, and before the line j that stands there of what is needed
  abbrev pub IsPlaced : ℕ → ℕ → ℕ → Type 0
  IsPlaced b k j = (x : ℕ) → keeps x ≡ true → defined_before (slice_get f.blocks b) k x ≡ true → defined_before (slice_get (needed keeps f).blocks b) j x ≡ true

  pub available_at_stays : (b k j : ℕ) → IsPlaced b k j → (x : ℕ) → keeps x ≡ true → holds (locals f) x ≡ true → AvailableAt f b k x → AvailableAt (needed keeps f) b j x
  available_at_stays b k j placed x kept there (inl h) = inl (available_stays b x kept there h)
  available_at_stays b k j placed x kept there (inr h) = inr (placed x kept h)

  all_before : (b : Block) (x : ℕ) → defined_before (Some b) (length b.lines) x ≡ holds (definitions b) x
  all_before b x = ap (λ ls. holds (phi_locals b ++ results ls) x) (take_all (length b.lines) b.lines (omega arith))

  end_placed : (o : Option Block) (x : ℕ) → keeps x ≡ true → defined_before o (line_count o) x ≡ true
      → defined_before (option_map (needed_block keeps) o) (line_count (option_map (needed_block keeps) o)) x ≡ true
  end_placed None x kept h = h
  end_placed (Some b) x kept h = all_before (needed_block keeps b) x ∙ definitions_stay keeps x kept b (sym (all_before b x) ∙ h)

  pub available_at_end_stays : (b x : ℕ) → keeps x ≡ true → holds (locals f) x ≡ true → AvailableAtEnd f b x → AvailableAtEnd (needed keeps f) b x
  available_at_end_stays b x kept there (inl h) = inl (available_stays b x kept there h)
  available_at_end_stays b x kept there (inr h) =
      inr (ap (λ (o : Option Block). defined_before o (line_count o) x) (block_at keeps f.blocks b) ∙ end_placed (slice_get f.blocks b) x kept h)
