-- The imports of all modules, one module further.
use Rattle.std.proofs.Common.{◌≡◌, ◌∙◌, inl, inr, ℕ, ◌+◌, ◌<◌, Bool, false, List, [], ◌∷◌, ◌++◌, Vec, length, replicate, slice_index_or, sym, subst, arith}
use Rattle.std.proofs.lemmas.Bool.{cases_lt}
use Rattle.std.proofs.lemmas.List.{get_or-replicate, get_or_append_left, get_or_past, get_or_push, length-map, length-replicate, map_push}
use Rattle.lto_sets.specs.Sets.{contains}
use Rattle.combined_index.specs.Combined.{Combined}
use Rattle.thin_link.specs.Plans.{Imports, definitions_at}
use Rattle.thin_link.specs.Views.{rows}

-- an empty set has no member
pub none_in : (n k : ℕ) → contains (replicate n false) k ≡ false
none_in n k = elim (cases_lt k n) [
  | inl l ↦ get_or-replicate n k false false l
  | inr l ↦ get_or_past (replicate n false) k false (let long : length (replicate n false) ≡ n = length-replicate n false in omega (arith, l, long))
]

module _ {Z : Type 0} (c : Combined) (live : List Bool) (limit : ℕ) where
  abbrev ImportsAt : List (Vec ℕ Z) → ℕ → Type 0
  ImportsAt lists m = Imports c live limit (definitions_at c m) (slice_index_or (rows lists) m [])

  pub one_module : (lists : List (Vec ℕ Z)) (k : ℕ) (v : Vec ℕ Z) → length lists ≡ k → Imports c live limit (definitions_at c k) v.items
      → ((m : ℕ) → m < k → ImportsAt lists m) → (m : ℕ) → m < k + 1 → ImportsAt (lists ++ v ∷ []) m
  one_module lists k v long new old m h =
      subst (λ (all : List (List ℕ)). Imports c live limit (definitions_at c m) (slice_index_or all m [])) (sym (map_push (λ (w : Vec ℕ Z). w.items) lists v)) (elim (cases_lt m k) [
        | inl l ↦ (
            let inside : m < length (rows lists) = omega (arith, l, long, rows_long) in
            subst (Imports c live limit (definitions_at c m)) (sym (get_or_append_left (rows lists) (v.items ∷ []) [] m inside)) (old m l))
        | inr l ↦ (
            let same : m ≡ k = omega (arith, h, l) in
            subst (λ (j : ℕ). Imports c live limit (definitions_at c j) (slice_index_or (rows lists ++ v.items ∷ []) j [])) (sym same)
            (subst (Imports c live limit (definitions_at c k)) (sym (get_or_push (rows lists) v.items [] k (rows_long ∙ long))) new))
      ])
    where
      rows_long : length (rows lists) ≡ length lists
      rows_long = length-map lists (λ (w : Vec ℕ Z). w.items)
