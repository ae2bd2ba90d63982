-- Numbers by name, as one more is noted.
use Rattle.std.proofs.Common.{◌≡◌, ◌∙◌, ◌<◌, ◌+◌, ℕ, sym, ap, ap₂, refl, Bool, true, false, cond, List, [], ◌∷◌, length, drop, drop-cons, add-one, slice_index_or, Option, Some, Vec}
use Rattle.std.proofs.lemmas.Cmp.{nat_list_eq_equiv}
use Rattle.std.specs.Global.{Global}
use Rattle.std.specs.List.{position_from}
use Rattle.std.specs.Str.{bytes_eq}
use Rattle.indexmap.specs.IndexMap.{insert_entry}
use Rattle.ir_tree.specs.declared.operand.Symbol.{Symbol}
use Rattle.combined_index.specs.Combined.{is_plain}
use Rattle.combined_index.specs.Tables.{Plain, looked_up}

abbrev same_name : Vec ℕ Global → Vec ℕ Global → Bool
same_name x y = bytes_eq x.items y.items

-- what is found once a name has the number v
pub looked_then : (es : Plain) (k : Vec ℕ Global) (v : ℕ) (name : List ℕ) → looked_up (insert_entry same_name es k v) name ≡ cond (bytes_eq name k.items) (Some v) (looked_up es name)
looked_then [] k v name = refl
looked_then (e ∷ es) k v name = by (same_name k e.0) refl (looked_then es k v name)
  where
    at_head : (c : Bool) (rest : Option ℕ) → cond c (Some v) rest ≡ cond c (Some v) (cond c (Some e.1) rest)
    at_head true rest = refl
    at_head false rest = refl

    same : same_name k e.0 ≡ true → bytes_eq name e.0.items ≡ bytes_eq name k.items
    same h = nat_list_eq_equiv.symm name e.0.items ∙ sym (nat_list_eq_equiv.congr k.items e.0.items name h) ∙ nat_list_eq_equiv.symm k.items name

    apart : same_name k e.0 ≡ false → bytes_eq name e.0.items ≡ true → bytes_eq name k.items ≡ false
    apart h g = nat_list_eq_equiv.congr name e.0.items k.items g ∙ nat_list_eq_equiv.symm e.0.items k.items ∙ h

    -- an entry in front of the one that changes
    in_front : (c : Bool) → bytes_eq name e.0.items ≡ c → same_name k e.0 ≡ false
        → looked_up (insert_entry same_name es k v) name ≡ cond (bytes_eq name k.items) (Some v) (looked_up es name)
        → looked_up (e ∷ insert_entry same_name es k v) name ≡ cond (bytes_eq name k.items) (Some v) (looked_up (e ∷ es) name)
    in_front true g h ih =
        ap (λ (c : Bool). cond c (Some e.1) (looked_up (insert_entry same_name es k v) name)) g
        ∙ sym (ap₂ (λ (b c : Bool). cond b (Some v) (cond c (Some e.1) (looked_up es name))) (apart h g) g)
    in_front false g h ih =
        ap (λ (c : Bool). cond c (Some e.1) (looked_up (insert_entry same_name es k v) name)) g
        ∙ ih ∙ sym (ap (λ (c : Bool). cond (bytes_eq name k.items) (Some v) (cond c (Some e.1) (looked_up es name))) g)

    by : (a : Bool) → same_name k e.0 ≡ a → looked_up (insert_entry same_name es k v) name ≡ cond (bytes_eq name k.items) (Some v) (looked_up es name)
        → looked_up (insert_entry same_name (e ∷ es) k v) name ≡ cond (bytes_eq name k.items) (Some v) (looked_up (e ∷ es) name)
    by true h ih =
        ap (λ (a : Bool). looked_up (cond a ((e.0, v) ∷ es) (e ∷ insert_entry same_name es k v)) name) h
        ∙ at_head (bytes_eq name e.0.items) (looked_up es name)
        ∙ ap (λ (c : Bool). cond c (Some v) (looked_up (e ∷ es) name)) (same h)
    by false h ih =
        ap (λ (a : Bool). looked_up (cond a ((e.0, v) ∷ es) (e ∷ insert_entry same_name es k v)) name) h
        ∙ in_front (bytes_eq name e.0.items) refl h ih

-- one more symbol in front of those that are noted
pub plain_more : (symbols : List Symbol) (i : ℕ) (d : Symbol) (es then : Plain) → i < length symbols
    → ((name : List ℕ) → looked_up es name ≡ position_from (is_plain name) (i + 1) (drop (i + 1) symbols))
    → ((name : List ℕ) → looked_up then name ≡ cond (is_plain name (slice_index_or symbols i d)) (Some i) (looked_up es name))
    → (name : List ℕ) → looked_up then name ≡ position_from (is_plain name) i (drop i symbols)
plain_more symbols i d es then lt before more name =
    more name ∙ ap (λ (z : Option ℕ). cond (is_plain name (slice_index_or symbols i d)) (Some i) z) (before name)
    ∙ sym (ap (position_from (is_plain name) i) left)
  where
    left : drop i symbols ≡ slice_index_or symbols i d ∷ drop (i + 1) symbols
    left = drop-cons symbols i d lt ∙ ap (λ n. slice_index_or symbols i d ∷ drop n symbols) (sym (add-one i))
