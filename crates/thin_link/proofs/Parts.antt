-- The text of a report, one part further.
use Rattle.std.proofs.Common.{◌≡◌, ◌∙◌, ◌<◌, ◌+◌, ℕ, inl, inr, sym, ap, subst, refl, Bool, List, [], ◌∷◌, ◌++◌, length, take, map, flat_map, get_or, slice_index_or, append_assoc, arith}
use Rattle.std.proofs.lemmas.List.{append-nil, get_or_append_left, get_or_push, length_push, map_more, map_push}
use Rattle.std.proofs.lemmas.List.Concat.{flat_map-append}
use Rattle.std.proofs.lemmas.Bool.{cases_lt}
use Rattle.combined_index.specs.Combined.{Combined}
use Rattle.thin_link.specs.Lines.{definition_line, import_line, module_line, text_of}
use Rattle.thin_link.specs.Listed.{IsInOrder, Listed, all_listed, all_prevailing}
use Rattle.thin_link.specs.Pushing.{AddsLines}
use Rattle.thin_link.specs.Reports.{AreLines}
use Rattle.thin_link.specs.Rows.{all_shown, shown}
use Rattle.thin_link.specs.declared.entry.Entry.{Entry}

-- one line further
pub one_line : (line : Listed → List ℕ) (xs : List Entry) (i : ℕ) (e : Entry) (old new more : List ℕ) → i < length xs → e ≡ get_or xs i e
    → new ≡ old ++ text_of (map line (all_shown (take i xs))) → more ≡ new ++ (line (shown e) ++ 10 ∷ []) → more ≡ old ++ text_of (map line (all_shown (take (i + 1) xs)))
one_line line xs i e old new more h at was is =
    is ∙ ap (λ (z : List ℕ). z ++ (line (shown e) ++ 10 ∷ [])) was
    ∙ append_assoc old (text_of (map line (all_shown (take i xs)))) (line (shown e) ++ 10 ∷ [])
    ∙ ap (λ (z : List ℕ). old ++ z) (sym (text_more (map line (all_shown (take i xs))) (line (shown e))) ∙ ap text_of (sym lines_more))
  where
    text_more : (lines : List (List ℕ)) (l : List ℕ) → text_of (lines ++ l ∷ []) ≡ text_of lines ++ (l ++ 10 ∷ [])
    text_more lines l = flat_map-append (λ x. x ++ 10 ∷ []) lines (l ∷ []) ∙ ap (λ (z : List ℕ). text_of lines ++ z) (append-nil (l ++ 10 ∷ []))

    lines_more : map line (all_shown (take (i + 1) xs)) ≡ map line (all_shown (take i xs)) ++ line (shown e) ∷ []
    lines_more =
        ap (map line) (map_more shown xs i e h) ∙ map_push line (all_shown (take i xs)) (shown (get_or xs i e))
        ∙ ap (λ (z : Entry). map line (all_shown (take i xs)) ++ line (shown z) ∷ []) (sym at)

-- the lines of a module whose definitions and imports are these
abbrev part_lines : List Bool → ℕ → List ℕ → List Listed → List Listed → List (List ℕ)
part_lines live k file ds is = module_line k file ∷ (map (definition_line live) ds ++ map import_line is)

joined : (live : List Bool) (k : ℕ) (file : List ℕ) (ds is : List Listed) (lines : List (List (List ℕ)))
    → ((text_of (flat_map (λ p. p) lines) ++ (module_line k file ++ 10 ∷ [])) ++ text_of (map (definition_line live) ds)) ++ text_of (map import_line is)
    ≡ text_of (flat_map (λ p. p) (lines ++ part_lines live k file ds is ∷ []))
joined live k file ds is lines =
    append_assoc (text_of (flat_map (λ p. p) lines) ++ (module_line k file ++ 10 ∷ [])) (text_of (map (definition_line live) ds)) (text_of (map import_line is))
    ∙ append_assoc (text_of (flat_map (λ p. p) lines)) (module_line k file ++ 10 ∷ []) (text_of (map (definition_line live) ds) ++ text_of (map import_line is))
    ∙ ap (λ (z : List ℕ). text_of (flat_map (λ p. p) lines) ++ ((module_line k file ++ 10 ∷ []) ++ z))
    (sym (flat_map-append (λ l. l ++ 10 ∷ []) (map (definition_line live) ds) (map import_line is)))
    ∙ sym (flat_map-append (λ l. l ++ 10 ∷ []) (flat_map (λ p. p) lines) (part_lines live k file ds is))
    ∙ ap text_of
    (ap (λ (z : List (List ℕ)). flat_map (λ p. p) lines ++ z) (sym (append-nil (part_lines live k file ds is)))
    ∙ sym (flat_map-append (λ p. p) lines (part_lines live k file ds is ∷ [])))

-- what is written of a report
pub record IsWritten (c : Combined) (live : List Bool) (imports files : List (List ℕ)) (count : ℕ) (text : List ℕ) : Type 0 where
  pub lines : List (List (List ℕ))
  pub modules : length lines ≡ count
  pub parts : (k : ℕ) → k < count → AreLines c live k (slice_index_or files k []) (slice_index_or imports k []) (slice_index_or lines k [])
  pub text_is : text ≡ text_of (flat_map (λ part. part) lines)

module _ (c : Combined) (live : List Bool) (imports files : List (List ℕ)) where
  here : (k : ℕ) (ds is : List Listed) → IsInOrder (all_listed c.symbols k (slice_index_or c.modules k [])) ds → IsInOrder (all_prevailing c (slice_index_or imports k [])) is
      → AreLines c live k (slice_index_or files k []) (slice_index_or imports k []) (part_lines live k (slice_index_or files k []) ds is)
  here k ds is defined brought = record { definitions = ds; defined = defined; imported = is; brought = brought; lines_are = refl }

  -- one module further
  pub written-more : (k : ℕ) (old head defined all : List ℕ) → IsWritten c live imports files k old
      → head ≡ old ++ (module_line k (slice_index_or files k []) ++ 10 ∷ [])
      → AddsLines (definition_line live) (all_listed c.symbols k (slice_index_or c.modules k [])) head defined
      → AddsLines import_line (all_prevailing c (slice_index_or imports k [])) defined all → IsWritten c live imports files (k + 1) all
  written-more k old head defined all w head_is d b = record {
    lines = w.lines ++ part_lines live k (slice_index_or files k []) d.order b.order ∷ [];
    modules = length_push w.lines (part_lines live k (slice_index_or files k []) d.order b.order) ∙ ap (λ (n : ℕ). n + 1) w.modules;
    parts = parts;
    text_is =
        b.added
        ∙ ap (λ (z : List ℕ). z ++ text_of (map import_line b.order))
        (d.added ∙ ap (λ (z : List ℕ). z ++ text_of (map (definition_line live) d.order)) (head_is ∙ ap (λ (z : List ℕ). z ++ (module_line k (slice_index_or files k []) ++ 10 ∷ [])) w.text_is))
        ∙ joined live k (slice_index_or files k []) d.order b.order w.lines;
  }
    where
      parts : (j : ℕ) → j < k + 1
          → AreLines c live j (slice_index_or files j []) (slice_index_or imports j []) (slice_index_or (w.lines ++ part_lines live k (slice_index_or files k []) d.order b.order ∷ []) j [])
      parts j h = elim (cases_lt j k) [
        | inl lt ↦ (
            let inside : j < length w.lines = omega (arith, lt, w.modules) in
            subst (AreLines c live j (slice_index_or files j []) (slice_index_or imports j []))
            (sym (get_or_append_left w.lines (part_lines live k (slice_index_or files k []) d.order b.order ∷ []) [] j inside)) (w.parts j lt))
        | inr ge ↦ (
            let same : j ≡ k = omega (arith, h, ge) in
            subst
            (λ (z : ℕ).
            AreLines c live z (slice_index_or files z []) (slice_index_or imports z []) (slice_index_or (w.lines ++ part_lines live k (slice_index_or files k []) d.order b.order ∷ []) z []))
            (sym same)
            (subst (AreLines c live k (slice_index_or files k []) (slice_index_or imports k []))
            (sym (get_or_push w.lines (part_lines live k (slice_index_or files k []) d.order b.order) [] k w.modules)) (here k d.order b.order d.sorted b.sorted)))
      ]
