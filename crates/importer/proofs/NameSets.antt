-- A list of names as a set, one name further.
use Rattle.std.proofs.Common.{◌≡◌, ◌∙◌, ◌↔◌, ◌<◌, ◌+◌, ◌||◌, ℕ, Bool, true, false, cond, List, length, drop, filter, get_or, Bor, refl, sym, ap, subst}
use Rattle.std.proofs.lemmas.Cmp.{nat_list_eq_equiv}
use Rattle.std.proofs.lemmas.List.{drop_more}
use Rattle.std.proofs.lemmas.Slice.Eq.{bytes_eq-Decides}
use Rattle.std.specs.HashSet.{HashSet, Updates}
use Rattle.std.specs.List.{Contains, list_any}
use Rattle.std.specs.Str.{bytes_eq}
use Rattle.merge_meaning.specs.ByName.{has}
use Rattle.merge_meaning.proofs.Standing.{any_by, any_from, filter_from, in_filter}

-- a borrow of this name
abbrev borrowed : List ℕ → Bor (List ℕ)
borrowed name = record { ref_ptr = (0, 0); now = name }

named : (b c rest : Bool) → (cond b true c || rest) ≡ (c || (b || rest))
named true true rest = refl
named true false rest = refl
named false c rest = refl

pub name_more : {S : Type 0} (old new : HashSet (Bor (List ℕ)) S) (k : Bor (List ℕ)) (names : List (List ℕ)) (i : ℕ) (d : List ℕ) → i < length names → k.now ≡ get_or names i d
    → Updates (λ x y. bytes_eq x.now y.now) old new k true → (name : List ℕ) → (has old name || list_any (bytes_eq name) (drop i names)) ≡ list_any (bytes_eq name) names
    → (has new name || list_any (bytes_eq name) (drop (i + 1) names)) ≡ list_any (bytes_eq name) names
name_more old new k names i d lt is updates name so_far =
    ap (λ (b : Bool). b || list_any (bytes_eq name) (drop (i + 1) names)) (updates.0 (borrowed name))
    ∙ named (bytes_eq k.now name) (has old name) (list_any (bytes_eq name) (drop (i + 1) names))
    ∙ ap (λ (b : Bool). has old name || (b || list_any (bytes_eq name) (drop (i + 1) names))) (nat_list_eq_equiv.symm k.now name ∙ ap (bytes_eq name) is)
    ∙ sym (ap (λ (ns : List (List ℕ)). has old name || list_any (bytes_eq name) ns) (drop_more names i d lt))
    ∙ so_far

-- of these names those are in a set that are in the list that it was made of
pub shared_are : (has_name : List ℕ → Bool) (exports names : List (List ℕ)) → ((name : List ℕ) → has_name name ≡ list_any (bytes_eq name) exports) → (name : List ℕ)
    → Contains (filter has_name names) name ↔ (Contains exports name × Contains names name)
shared_are has_name exports names knows name = (
  λ h.
      let both = filter_from has_name names name h in
      let found = any_from (bytes_eq name) exports (sym (knows name) ∙ both.1) in
      (subst (Contains exports) (sym ((bytes_eq-Decides name found.0).0 found.2)) found.1, both.0),
  λ both. in_filter has_name names name both.1 (knows name ∙ any_by (bytes_eq name) exports name both.0 ((bytes_eq-Decides name name).1 refl)),
)
