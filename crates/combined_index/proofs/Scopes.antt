-- A module's own names as they are kept.
use Rattle.std.proofs.Common.{◌≡◌, ◌∙◌, ◌||◌, ◌&&◌, ◌<◌, ◌≤◌, ◌+◌, ℕ, sym, ap, ap₂, refl, Bool, true, false, cond, List, [], ◌∷◌, ◌++◌, length, drop, drop-cons, add-one, drop_of_length-le, slice_index_or, Bor}
use Rattle.std.proofs.lemmas.Cmp.{nat_list_eq_equiv}
use Rattle.std.specs.List.{list_any}
use Rattle.std.specs.Str.{bytes_eq}
use Rattle.indexmap.specs.IndexSet.{insert_key}
use Rattle.ir_summary.specs.declared.summary.Summary.{Summary}
use Rattle.combined_index.specs.Entries.{is_own}
use Rattle.ir_tree.specs.Linkages.{is_local}
use Rattle.combined_index.specs.Numbered.{is_kept}

abbrev alike : Bor (List ℕ) → Bor (List ℕ) → Bool
alike x y = bytes_eq x.now y.now

-- what is left, as its first item and the rest
pub left : {X : Type 0} (xs : List X) (i : ℕ) (d : X) → i < length xs → drop i xs ≡ slice_index_or xs i d ∷ drop (i + 1) xs
left xs i d lt = drop-cons xs i d lt ∙ ap (λ n. slice_index_or xs i d ∷ drop n xs) (sym (add-one i))

kept_behind : (ks : List (Bor (List ℕ))) (k : Bor (List ℕ)) (name : List ℕ) → is_kept (ks ++ k ∷ []) name ≡ (is_kept ks name || bytes_eq name k.now)
kept_behind [] k name = or_false (bytes_eq name k.now)
  where
    or_false : (b : Bool) → (b || false) ≡ b
    or_false true = refl
    or_false false = refl
kept_behind (x ∷ xs) k name = ap (λ (b : Bool). bytes_eq name x.now || b) (kept_behind xs k name) ∙ grouped (bytes_eq name x.now)
  where
    grouped : (a : Bool) → (a || (is_kept xs name || bytes_eq name k.now)) ≡ ((a || is_kept xs name) || bytes_eq name k.now)
    grouped true = refl
    grouped false = refl

-- a key that is there already is kept under its name
there : (ks : List (Bor (List ℕ))) (k : Bor (List ℕ)) (name : List ℕ) → list_any (alike k) ks ≡ true → is_kept ks name ≡ (is_kept ks name || bytes_eq name k.now)
there ks k name h = by (bytes_eq name k.now) refl
  where
    found : (ks : List (Bor (List ℕ))) → bytes_eq name k.now ≡ true → is_kept ks name ≡ list_any (alike k) ks
    found [] e = refl
    found (x ∷ xs) e = ap₂ (λ (a b : Bool). a || b) (nat_list_eq_equiv.congr name k.now x.now e) (found xs e)

    or_false : (b : Bool) → b ≡ (b || false)
    or_false true = refl
    or_false false = refl

    by : (b : Bool) → bytes_eq name k.now ≡ b → is_kept ks name ≡ (is_kept ks name || bytes_eq name k.now)
    by true e = found ks e ∙ h ∙ sym (ap₂ (λ (a b : Bool). a || b) (found ks e ∙ h) e)
    by false e = or_false (is_kept ks name) ∙ sym (ap (λ (b : Bool). is_kept ks name || b) e)

kept_more : (ks : List (Bor (List ℕ))) (k : Bor (List ℕ)) (name : List ℕ) → is_kept (insert_key alike ks k) name ≡ (is_kept ks name || bytes_eq name k.now)
kept_more ks k name = by (list_any (alike k) ks) refl
  where
    by : (b : Bool) → list_any (alike k) ks ≡ b → is_kept (insert_key alike ks k) name ≡ (is_kept ks name || bytes_eq name k.now)
    by true h = ap (λ (b : Bool). is_kept (cond b ks (ks ++ k ∷ [])) name) h ∙ there ks k name h
    by false h = ap (λ (b : Bool). is_kept (cond b ks (ks ++ k ∷ [])) name) h ∙ kept_behind ks k name

module _ (summaries : List Summary) (i : ℕ) (d : Summary) (lt : i < length summaries) (ks : List (Bor (List ℕ))) (so_far : (name : List ℕ) → (is_kept ks name || is_own (drop i summaries) name) ≡ is_own summaries name) where
  abbrev one : Summary
  one = slice_index_or summaries i d

  at : (name : List ℕ) → (is_kept ks name || ((is_local one.linkage && bytes_eq name one.name) || is_own (drop (i + 1) summaries) name)) ≡ is_own summaries name
  at name = ap (λ (z : List Summary). is_kept ks name || is_own z name) (sym (left summaries i d lt)) ∙ so_far name

  -- a summary of a local definition
  pub own_more : (then : List (Bor (List ℕ))) (k : Bor (List ℕ)) → k.now ≡ one.name → is_local one.linkage ≡ true → then ≡ insert_key alike ks k
      → (name : List ℕ) → (is_kept then name || is_own (drop (i + 1) summaries) name) ≡ is_own summaries name
  own_more then k is local then_is name =
      ap (λ (z : List (Bor (List ℕ))). is_kept z name || is_own (drop (i + 1) summaries) name) then_is
      ∙ ap (λ (b : Bool). b || is_own (drop (i + 1) summaries) name) (kept_more ks k name ∙ ap (λ (z : List ℕ). is_kept ks name || bytes_eq name z) is)
      ∙ grouped (is_kept ks name) (bytes_eq name one.name) (is_own (drop (i + 1) summaries) name)
      ∙ sym (ap (λ (b : Bool). is_kept ks name || ((b && bytes_eq name one.name) || is_own (drop (i + 1) summaries) name)) local)
      ∙ at name
    where
      grouped : (a b c : Bool) → ((a || b) || c) ≡ (a || (b || c))
      grouped true b c = refl
      grouped false b c = refl

  -- another one
  pub not_own : is_local one.linkage ≡ false → (name : List ℕ) → (is_kept ks name || is_own (drop (i + 1) summaries) name) ≡ is_own summaries name
  not_own local name = sym (ap (λ (b : Bool). is_kept ks name || ((b && bytes_eq name one.name) || is_own (drop (i + 1) summaries) name)) local) ∙ at name

pub own_done : (summaries : List Summary) (i : ℕ) (ks : List (Bor (List ℕ))) → length summaries ≤ i
    → ((name : List ℕ) → (is_kept ks name || is_own (drop i summaries) name) ≡ is_own summaries name) → (name : List ℕ) → is_kept ks name ≡ is_own summaries name
own_done summaries i ks past so_far name =
    or_false (is_kept ks name) ∙ sym (ap (λ (z : List Summary). is_kept ks name || is_own z name) (drop_of_length-le summaries past)) ∙ so_far name
  where
    or_false : (b : Bool) → b ≡ (b || false)
    or_false true = refl
    or_false false = refl
