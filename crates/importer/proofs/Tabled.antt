-- Borrowed values as values, and the table of values as one more is put into it.
use Rattle.std.proofs.Common.{◌≡◌, ◌∙◌, ◌<◌, ◌+◌, ℕ, Bool, true, false, cond, List, [], ◌∷◌, ◌++◌, Option, Some, None, Bor, ap, sym, refl, take, length, slice_index_or, option_map, append_assoc}
use Rattle.std.specs.Prelude.{filter_map}
use Rattle.std.specs.HashMap.{HashMap, UpdatesBy, get_by}
use Rattle.std.specs.List.{cons_option}
use Rattle.std.specs.Str.{bytes_eq}
use Rattle.std.proofs.lemmas.Grind.{take_at_read}
use Rattle.std.proofs.lemmas.List.Elements.{filter_map-append}
use Rattle.std.proofs.lemmas.Map.Text.{hash_map_updates_str}
use Rattle.ir_tree.specs.declared.module.GlobalValue.{GlobalValue}
use Rattle.ir_summary.specs.Once.{texts}
use Rattle.importer.specs.Tables.{option_list, value_in, values}
use Rattle.importer.proofs.Gathering.{found_mapped}

-- ---- lists

pub one_given : {X : Type 0} (o : Option X) → cons_option o [] ≡ option_list o
one_given None = refl
one_given (Some x) = refl

-- what a map gives of one more number
pub given_more : (h : ℕ → Option GlobalValue) (old new first : List (Bor GlobalValue)) (numbers : List ℕ) (i : ℕ) (o : Option GlobalValue) → i < length numbers
    → values old ≡ values first ++ filter_map h (take i numbers) → o ≡ h (slice_index_or numbers i 0) → values new ≡ values old ++ option_list o → values new ≡ values first ++ filter_map h (take (i + 1) numbers)
given_more h old new first numbers i o lt before given pushed =
    let n : ℕ = slice_index_or numbers i 0 in
    pushed ∙ ap (λ (p : Option GlobalValue). values old ++ option_list p) given
    ∙ ap (λ (l : List GlobalValue). l ++ option_list (h n)) before
    ∙ append_assoc (values first) (filter_map h (take i numbers)) (option_list (h n))
    ∙ ap (λ (l : List GlobalValue). values first ++ (filter_map h (take i numbers) ++ l)) (sym (one_given (h n)))
    ∙ ap (λ (l : List GlobalValue). values first ++ l) (sym (filter_map-append h (take i numbers) (n ∷ [])))
    ∙ ap (λ (l : List ℕ). values first ++ filter_map h l) (sym (take_at_read numbers i 0 lt).1)

-- the same of borrowed names
pub found_more : (h : List ℕ → Option GlobalValue) (old new first : List GlobalValue) (names : List (Bor (List ℕ))) (i : ℕ) (d : Bor (List ℕ)) (o : Option GlobalValue) → i < length names
    → old ≡ first ++ filter_map h (texts (take i names)) → o ≡ h (slice_index_or names i d).now → new ≡ old ++ option_list o → new ≡ first ++ filter_map h (texts (take (i + 1) names))
found_more h old new first names i d o lt before found pushed =
    let n : Bor (List ℕ) = slice_index_or names i d in
    pushed ∙ ap (λ (p : Option GlobalValue). old ++ option_list p) found
    ∙ ap (λ (l : List GlobalValue). l ++ option_list (h n.now)) before
    ∙ append_assoc first (filter_map h (texts (take i names))) (option_list (h n.now))
    ∙ ap (λ (l : List GlobalValue). first ++ (filter_map h (texts (take i names)) ++ l)) (sym (one_given (h n.now)))
    ∙ ap (λ (l : List GlobalValue). first ++ l) (sym (found_mapped h (λ (m : Bor (List ℕ)). m.now) (take i names) (n ∷ [])))
    ∙ ap (λ (l : List (Bor (List ℕ))). first ++ filter_map h (texts l)) (sym (take_at_read names i d lt).1)

-- ---- the table

mapped : (b : Bool) (g : Bor GlobalValue) (o : Option (Bor GlobalValue)) → option_map (λ h. h.now) (cond b (Some g) o) ≡ cond b (Some g.now) (option_map (λ h. h.now) o)
mapped true g o = refl
mapped false g o = refl

pub put_in : {S : Type 0} (old new : HashMap (Bor (List ℕ)) (Bor GlobalValue) S) (bs : List ℕ) (g : Bor GlobalValue) → UpdatesBy (λ x y. bytes_eq x.now y.now) (λ k. bytes_eq bs k.now) old new (Some g)
    → (name : List ℕ) → value_in new name ≡ cond (bytes_eq bs name) (Some g.now) (value_in old name)
put_in old new bs g updates name =
    ap (option_map (λ h. h.now)) (hash_map_updates_str bs old new (Some g) updates name)
    ∙ mapped (bytes_eq bs name) g (get_by (λ k. bytes_eq name k.now) old)
