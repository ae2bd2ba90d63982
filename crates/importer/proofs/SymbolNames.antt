-- The final names of symbols, one number further.
use Rattle.std.proofs.Common.{◌≡◌, ◌∙◌, ◌<◌, ◌+◌, ℕ, List, [], ◌∷◌, ◌++◌, Option, append_assoc, ap, sym, length, option_map, slice_get, slice_index_or, take}
use Rattle.std.specs.Prelude.{filter_map}
use Rattle.std.proofs.lemmas.Grind.{take_at_read}
use Rattle.std.proofs.lemmas.List.Elements.{filter_map-append}
use Rattle.ir_tree.specs.declared.operand.Symbol.{Symbol}
use Rattle.combined_index.specs.Finals.{final_name}
use Rattle.importer.specs.Brought.{names_of}
use Rattle.importer.specs.Tables.{option_list}
use Rattle.importer.proofs.Tabled.{one_given}

-- the names so far, and those of one more number
pub names_more : (new old first : List (List ℕ)) (symbols : List Symbol) (suffixes : List (List ℕ)) (numbers : List ℕ) (i : ℕ) (o : Option Symbol) → i < length numbers → o ≡ slice_get symbols (slice_index_or numbers i 0)
    → old ≡ first ++ names_of symbols suffixes (take i numbers) → new ≡ old ++ option_list (option_map (final_name suffixes) o) → new ≡ first ++ names_of symbols suffixes (take (i + 1) numbers)
names_more new old first symbols suffixes numbers i o lt found before pushed =
    let h : ℕ → Option (List ℕ) = λ k. option_map (final_name suffixes) (slice_get symbols k) in
    let n : ℕ = slice_index_or numbers i 0 in
    pushed
    ∙ ap (λ (p : Option Symbol). old ++ option_list (option_map (final_name suffixes) p)) found
    ∙ ap (λ (l : List (List ℕ)). l ++ option_list (h n)) before
    ∙ append_assoc first (filter_map h (take i numbers)) (option_list (h n))
    ∙ ap (λ (l : List (List ℕ)). first ++ (filter_map h (take i numbers) ++ l)) (sym (one_given (h n)))
    ∙ ap (λ (l : List (List ℕ)). first ++ l) (sym (filter_map-append h (take i numbers) (n ∷ [])))
    ∙ ap (λ (l : List ℕ). first ++ filter_map h l) (sym (take_at_read numbers i 0 lt).1)
