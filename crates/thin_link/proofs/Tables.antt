-- The rows of a table, as one more definition comes.
use Rattle.std.proofs.Common.{◌≡◌, ◌≢◌, ◌∙◌, ◌&&◌, ◌<◌, ◌+◌, ℕ, sym, ap, ap₂, subst, refl, Bool, true, false, cond, List, [], ◌∷◌, ◌++◌, length, take, find, Option, Some, None, nat_eq, is_none, slice_set, slice_index_or, get_or-set_same, get_or-set_other, append_assoc}
use Rattle.std.proofs.lemmas.Bool.{eq-eqb, eqb-true, false≢true}
use Rattle.std.proofs.lemmas.List.{map_more}
use Rattle.std.specs.Option.{option_map}
use Rattle.ir_tree.specs.declared.operand.Symbol.{Symbol}
use Rattle.combined_index.specs.declared.definition.Definition.{Definition}
use Rattle.thin_link.specs.Listed.{Listed, all_listed, is_of, listed}
use Rattle.thin_link.specs.Rows.{IsTable, shown}
use Rattle.thin_link.specs.declared.entry.Entry.{Entry}
use Rattle.combined_index.proofs.Placings.{find_kept, find_last, find_passed}

-- ---- one more definition

module _ (before : List Listed) (e : Entry) (table : List (Option Entry)) (held : IsTable table before) where
  abbrev own : ℕ
  own = e.definition.now.symbol

  passed : (n : ℕ) → is_of n (shown e) ≡ false → option_map shown (slice_index_or table n None) ≡ find (is_of n) (before ++ shown e ∷ [])
  passed n h = held n ∙ sym (find_passed (is_of n) before (shown e) h)

  -- a definition that doesn't prevail
  pub passed_over : e.definition.now.prevails ≡ false → IsTable table (before ++ shown e ∷ [])
  passed_over h n = passed n (ap (λ (b : Bool). b && nat_eq own n) h)

  elsewhere : (n : ℕ) → nat_eq own n ≡ false → is_of n (shown e) ≡ false
  elsewhere n h = ap (λ (b : Bool). e.definition.now.prevails && b) h ∙ never e.definition.now.prevails
    where
      never : (b : Bool) → (b && false) ≡ false
      never true = refl
      never false = refl

  apart : (n : ℕ) → nat_eq own n ≡ false → n ≢ own
  apart n h same = false≢true (sym h ∙ eq-eqb own n (sym same))

  -- the first that prevails for its symbol
  pub put_here : e.definition.now.prevails ≡ true → own < length table → is_none (slice_index_or table own None) ≡ true → IsTable (slice_set table own (Some e)) (before ++ shown e ∷ [])
  put_here wins lt free n = by (nat_eq own n) refl
    where
      empty : (o : Option Entry) → is_none o ≡ true → option_map shown o ≡ find (is_of own) before → find (is_of own) before ≡ None
      empty None h f = sym f
      empty (Some p) h f = absurd (false≢true h)

      here : option_map shown (slice_index_or (slice_set table own (Some e)) own None) ≡ find (is_of own) (before ++ shown e ∷ [])
      here =
          ap (option_map shown) (get_or-set_same table own (Some e) None lt)
          ∙ sym (find_last (is_of own) before (shown e) (empty (slice_index_or table own None) free (held own)) ∙ ap₂ (λ (a b : Bool). cond (a && b) (Some (shown e)) None) wins (eq-eqb own own refl))

      by : (b : Bool) → nat_eq own n ≡ b → option_map shown (slice_index_or (slice_set table own (Some e)) n None) ≡ find (is_of n) (before ++ shown e ∷ [])
      by true h = subst (λ (m : ℕ). option_map shown (slice_index_or (slice_set table own (Some e)) m None) ≡ find (is_of m) (before ++ shown e ∷ [])) (eqb-true own n h) here
      by false h = ap (option_map shown) (get_or-set_other table own n (Some e) None (apart n h)) ∙ passed n (elsewhere n h)

  -- another did before
  pub put_before : is_none (slice_index_or table own None) ≡ false → IsTable table (before ++ shown e ∷ [])
  put_before taken n = by (nat_eq own n) refl
    where
      kept : (o : Option Entry) → is_none o ≡ false → option_map shown o ≡ find (is_of own) before → option_map shown o ≡ find (is_of own) (before ++ shown e ∷ [])
      kept None h f = absurd (false≢true (sym h))
      kept (Some p) h f = sym (find_kept (is_of own) before (shown e) (shown p) (sym f))

      by : (b : Bool) → nat_eq own n ≡ b → option_map shown (slice_index_or table n None) ≡ find (is_of n) (before ++ shown e ∷ [])
      by true h =
          subst (λ (m : ℕ). option_map shown (slice_index_or table m None) ≡ find (is_of m) (before ++ shown e ∷ [])) (eqb-true own n h)
          (kept (slice_index_or table own None) taken (held own))
      by false h = passed n (elsewhere n h)

-- ---- the definitions of a module, one after another

pub one_further : (symbols : List Symbol) (number : ℕ) (table : List (Option Entry)) (before : List Listed) (ds : List Definition) (i : ℕ) (d : Definition) (e : Listed)
    → i < length ds → d ≡ slice_index_or ds i d → e ≡ listed symbols number d
    → IsTable table ((before ++ all_listed symbols number (take i ds)) ++ e ∷ []) → IsTable table (before ++ all_listed symbols number (take (i + 1) ds))
one_further symbols k table before ds i d e lt at is =
    subst (IsTable table)
    (append_assoc before (all_listed symbols k (take i ds)) (e ∷ [])
    ∙ ap (λ (z : List Listed). before ++ z) (ap (λ (z : Listed). all_listed symbols k (take i ds) ++ z ∷ []) (is ∙ ap (listed symbols k) at) ∙ sym (map_more (listed symbols k) ds i d lt)))
