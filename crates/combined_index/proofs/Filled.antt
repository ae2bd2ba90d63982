-- Lists of lists, as numbers are put into them.
use Rattle.std.proofs.Common.{◌≡◌, ◌∙◌, ◌<◌, ◌+◌, ◌||◌, ◌&&◌, ℕ, zero, suc, refl, sym, ap, ap₂, Bool, true, false, cond, List, [], ◌∷◌, ◌++◌, nat_eq, filter, replicate, length, get_or, slice_index_or, slice_set, Vec, eqb-true, append-nil, add-one, arith}
use Rattle.std.proofs.lemmas.Bool.{eqb-false}
use Rattle.std.proofs.lemmas.List.{get_or-set_other, get_or-set_same}
use Rattle.std.proofs.lemmas.List.Elements.{filter-append}
use Rattle.std.specs.List.{range_with_len}
use Rattle.ir_tree.specs.declared.operand.Symbol.{Symbol}
use Rattle.lto_sets.specs.Sets.{contains}
use Rattle.combined_index.specs.Combined.{Combined}
use Rattle.combined_index.specs.Entries.{is_module}
use Rattle.combined_index.specs.Indexed.{symbol_at}
use Rattle.combined_index.specs.Brought.{is_brought, row, rows}
use Rattle.combined_index.specs.Promotions.{Lists, is_local_to}
use Rattle.combined_index.proofs.Decided.{decided}

module _ {Z : Type 0} where
  pub length-rows : (lists : List (Vec ℕ Z)) → length (rows lists) ≡ length lists
  length-rows [] = refl
  length-rows (v ∷ vs) = ap suc (length-rows vs)

  -- an empty list more
  pub rows_empty : (lists : List (Vec ℕ Z)) (v : Vec ℕ Z) (i : ℕ) → v.items ≡ [] → ((j : ℕ) → row lists j ≡ []) → row (lists ++ v ∷ []) i ≡ []
  rows_empty [] v zero e empty = e
  rows_empty [] v (suc i) e empty = refl
  rows_empty (x ∷ xs) v zero e empty = empty 0
  rows_empty (x ∷ xs) v (suc i) e empty = rows_empty xs v i e (λ j. empty (suc j))

  rows_set : (lists : List (Vec ℕ Z)) (place : ℕ) (v : Vec ℕ Z) → rows (slice_set lists place v) ≡ slice_set (rows lists) place v.items
  rows_set [] place v = refl
  rows_set (x ∷ xs) zero v = refl
  rows_set (x ∷ xs) (suc place) v = ap (λ (z : List (List ℕ)). x.items ∷ z) (rows_set xs place v)

  row_is : (lists : List (Vec ℕ Z)) (place : ℕ) (d : Vec ℕ Z) → place < length lists → row lists place ≡ (get_or lists place d).items
  row_is [] place d lt = absurd (omega arith)
  row_is (x ∷ xs) zero d lt = refl
  row_is (x ∷ xs) (suc place) d lt = row_is xs place d (omega arith)

  -- one number more in one list
  pub row_put : (lists : List (Vec ℕ Z)) (place k i : ℕ) (old new : Vec ℕ Z) → place < length lists → old ≡ get_or lists place old → new.items ≡ old.items ++ k ∷ []
      → row (slice_set lists place new) i ≡ row lists i ++ cond (nat_eq place i) (k ∷ []) []
  row_put lists place k i old new lt old_is new_is = ap (λ (z : List (List ℕ)). slice_index_or z i []) (rows_set lists place new) ∙ by (nat_eq place i) refl
    where
      by : (b : Bool) → nat_eq place i ≡ b → slice_index_or (slice_set (rows lists) place new.items) i [] ≡ row lists i ++ cond (nat_eq place i) (k ∷ []) []
      by true e =
          let same : place ≡ i = eqb-true place i e in
          let within : place < length (rows lists) = omega (arith, lt, length-rows lists) in
          ap (λ (j : ℕ). slice_index_or (slice_set (rows lists) place new.items) j []) (sym same)
          ∙ get_or-set_same (rows lists) place new.items [] within ∙ new_is
          ∙ ap (λ (z : List ℕ). z ++ k ∷ []) (ap (λ (v : Vec ℕ Z). v.items) old_is ∙ sym (row_is lists place old lt))
          ∙ ap₂ (λ (j : ℕ) (b : Bool). row lists j ++ cond b (k ∷ []) []) same (sym e)
      by false e =
          get_or-set_other (rows lists) place i new.items [] (λ s. eqb-false place i e (sym s))
          ∙ sym (append-nil (row lists i)) ∙ ap (λ (b : Bool). row lists i ++ cond b (k ∷ []) []) (sym e)

-- ---- numbers that pass a test

range_next : (a n : ℕ) → range_with_len a (suc n) ≡ range_with_len a n ++ (a + n) ∷ []
range_next a zero = let e : a ≡ a + 0 = omega arith in ap (λ (k : ℕ). k ∷ []) e
range_next a (suc n) =
    let e : (a + 1) + n ≡ a + suc n = omega arith in
    ap (λ (z : List ℕ). a ∷ z) (range_next (a + 1) n ∙ ap (λ (k : ℕ). range_with_len (a + 1) n ++ k ∷ []) e)

one_passes : (p : ℕ → Bool) (k : ℕ) (b : Bool) → p k ≡ b → filter p (k ∷ []) ≡ cond b (k ∷ []) []
one_passes p k true e = ap (λ (b : Bool). cond b (k ∷ []) []) e
one_passes p k false e = ap (λ (b : Bool). cond b (k ∷ []) []) e

-- one number more
pub filter_next : (p : ℕ → Bool) (k : ℕ) (b : Bool) → b ≡ p k → filter p (range_with_len 0 (k + 1)) ≡ filter p (range_with_len 0 k) ++ cond b (k ∷ []) []
filter_next p k b e =
    let here : 0 + k ≡ k = omega arith in
    ap (λ (n : ℕ). filter p (range_with_len 0 n)) (add-one k) ∙ ap (filter p) (range_next 0 k ∙ ap (λ (j : ℕ). range_with_len 0 k ++ j ∷ []) here)
    ∙ filter-append p (range_with_len 0 k) (k ∷ []) ∙ ap (λ (z : List ℕ). filter p (range_with_len 0 k) ++ z) (one_passes p k b (sym e))

filter_same : (p q : ℕ → Bool) → ((n : ℕ) → p n ≡ q n) → (ns : List ℕ) → filter p ns ≡ filter q ns
filter_same p q same [] = refl
filter_same p q same (n ∷ ns) = ap₂ (λ (b : Bool) (z : List ℕ). cond b (n ∷ z) z) (same n) (filter_same p q same ns)

unmarked : (size n : ℕ) → contains (replicate size false) n ≡ false
unmarked zero n = refl
unmarked (suc size) zero = refl
unmarked (suc size) (suc n) = unmarked size n

-- what is listed by marks that were set from none
pub lists_promoted : (c : Combined) (imports : List (List ℕ)) (symbols : List Symbol) (start marks : List Bool) (size home : ℕ) (list : List ℕ) → symbols ≡ c.symbols → start ≡ replicate size false
    → ((n : ℕ) → contains marks n ≡ (contains start n || is_brought c 0 imports n))
    → list ≡ filter (λ n. contains marks n && is_module home (symbol_at symbols n).home) (range_with_len 0 (length symbols)) → Lists c imports home list
lists_promoted c imports symbols start marks size home list is start_is marked listed = record {
  test = λ n. is_brought c 0 imports n && is_local_to c home n;
  decides = decided c imports home;
  list_is =
      listed
      ∙ ap (λ (z : List Symbol). filter (λ n. contains marks n && is_module home (symbol_at z n).home) (range_with_len 0 (length z))) is
      ∙ filter_same (λ n. contains marks n && is_local_to c home n) (λ n. is_brought c 0 imports n && is_local_to c home n) same (range_with_len 0 (length c.symbols));
}
  where
    same : (n : ℕ) → (contains marks n && is_local_to c home n) ≡ (is_brought c 0 imports n && is_local_to c home n)
    same n =
        ap (λ (b : Bool). b && is_local_to c home n)
        (marked n ∙ ap (λ (b : Bool). b || is_brought c 0 imports n) (ap (λ (z : List Bool). contains z n) start_is ∙ unmarked size n))
