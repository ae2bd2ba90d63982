-- The first entry of a key, in longer histories.
use Rattle.std.proofs.Common.{◌≡◌, ◌≢◌, ℕ, Bool, true, false, cond, true≢false, List, [], ◌∷◌, ◌++◌, Some, None, refl, sym, ap}
use Rattle.std.specs.Str.{bytes_eq}
use Rattle.std.proofs.lemmas.Slice.Eq.{bytes_eq-Decides}
use Rattle.cache_slot.specs.declared.record.Record.{Record}
use Rattle.cache_slot.specs.declared.record.Record.TheVariants.{Entry, Again, Hit, Miss}
use Rattle.cache_slot.specs.Records.{text_of, Stands}

-- an entry of the key stays the first
pub text_kept : (key text : List ℕ) (rs more : List Record) → text_of key rs ≡ Some text → text_of key (rs ++ more) ≡ Some text
text_kept key text [] more e = absurd (cc e)
text_kept key text (Again k ∷ rs) more e = text_kept key text rs more e
text_kept key text (Hit k ∷ rs) more e = text_kept key text rs more e
text_kept key text (Miss k why ∷ rs) more e = text_kept key text rs more e
text_kept key text (Entry k t failed ∷ rs) more e = by (bytes_eq k key) (text_kept key text rs more) e
  where
    by : (b : Bool) → (text_of key rs ≡ Some text → text_of key (rs ++ more) ≡ Some text) → cond b (Some t) (text_of key rs) ≡ Some text → cond b (Some t) (text_of key (rs ++ more)) ≡ Some text
    by true behind f = f
    by false behind f = behind f

-- where no entry of the longer history has the key, none of the shorter has
pub none_front : (key : List ℕ) (rs more : List Record) → text_of key (rs ++ more) ≡ None → text_of key rs ≡ None
none_front key [] more e = refl
none_front key (Again k ∷ rs) more e = none_front key rs more e
none_front key (Hit k ∷ rs) more e = none_front key rs more e
none_front key (Miss k why ∷ rs) more e = none_front key rs more e
none_front key (Entry k t failed ∷ rs) more e = by (bytes_eq k key) (none_front key rs more) e
  where
    by : (b : Bool) → (text_of key (rs ++ more) ≡ None → text_of key rs ≡ None) → cond b (Some t) (text_of key (rs ++ more)) ≡ None → cond b (Some t) (text_of key rs) ≡ None
    by true behind f = absurd (cc f)
    by false behind f = behind f

-- and the last record is no entry of it
pub none_last : (key : List ℕ) (rs : List Record) (k t : List ℕ) (failed : Bool) → text_of key (rs ++ Entry k t failed ∷ []) ≡ None → k ≢ key
none_last key [] k t failed e = λ same. by (bytes_eq k key) ((bytes_eq-Decides k key).1 same) e
  where
    by : (b : Bool) → b ≡ true → cond b (Some t) None ≡ None → ⊥
    by true is f = cc f
    by false is f = true≢false (sym is)
none_last key (Again j ∷ rs) k t failed e = none_last key rs k t failed e
none_last key (Hit j ∷ rs) k t failed e = none_last key rs k t failed e
none_last key (Miss j why ∷ rs) k t failed e = none_last key rs k t failed e
none_last key (Entry j u f ∷ rs) k t failed e = by (bytes_eq j key) (none_last key rs k t failed) e
  where
    by : (b : Bool) → (text_of key (rs ++ Entry k t failed ∷ []) ≡ None → k ≢ key) → cond b (Some u) (text_of key (rs ++ Entry k t failed ∷ [])) ≡ None → k ≢ key
    by true behind f = absurd (cc f)
    by false behind f = behind f

-- the new entry is found
pub text_pushed : (key : List ℕ) (rs : List Record) (t : List ℕ) (failed : Bool) → text_of key rs ≡ None → text_of key (rs ++ Entry key t failed ∷ []) ≡ Some t
text_pushed key [] t failed e = ap (λ b. cond b (Some t) None) ((bytes_eq-Decides key key).1 refl)
text_pushed key (Again j ∷ rs) t failed e = text_pushed key rs t failed e
text_pushed key (Hit j ∷ rs) t failed e = text_pushed key rs t failed e
text_pushed key (Miss j why ∷ rs) t failed e = text_pushed key rs t failed e
text_pushed key (Entry j u f ∷ rs) t failed e = by (bytes_eq j key) (text_pushed key rs t failed) e
  where
    by : (b : Bool) → (text_of key rs ≡ None → text_of key (rs ++ Entry key t failed ∷ []) ≡ Some t) → cond b (Some u) (text_of key rs) ≡ None → cond b (Some u) (text_of key (rs ++ Entry key t failed ∷ [])) ≡ Some t
    by true behind g = absurd (cc g)
    by false behind g = behind g

-- a text that is found is that of an entry
pub record Found (key text : List ℕ) (rs : List Record) : Type 0 where
  pub failed : Bool
  pub before : List Record
  pub later : List Record
  pub stands : Stands (Entry key text failed) before later rs

one_more : (key text : List ℕ) (r : Record) (rs : List Record) → Found key text rs → Found key text (r ∷ rs)
one_more key text r rs f = record { failed = f.failed; before = r ∷ f.before; later = f.later; stands = ap (λ z. r ∷ z) f.stands }

pub found_entry : (key text : List ℕ) (rs : List Record) → text_of key rs ≡ Some text → Found key text rs
found_entry key text [] e = absurd (cc e)
found_entry key text (Again k ∷ rs) e = one_more key text (Again k) rs (found_entry key text rs e)
found_entry key text (Hit k ∷ rs) e = one_more key text (Hit k) rs (found_entry key text rs e)
found_entry key text (Miss k why ∷ rs) e = one_more key text (Miss k why) rs (found_entry key text rs e)
found_entry key text (Entry k t f ∷ rs) e = by (bytes_eq k key) refl (found_entry key text rs) e
  where
    by : (b : Bool) → bytes_eq k key ≡ b → (text_of key rs ≡ Some text → Found key text rs) → cond b (Some t) (text_of key rs) ≡ Some text → Found key text (Entry k t f ∷ rs)
    by true is behind g =
        let same : k ≡ key = (bytes_eq-Decides k key).0 is in
        let text_is : t ≡ text = cc g in
        record { failed = f; before = []; later = rs; stands = λ i. Entry (same i) (text_is i) f ∷ rs }
    by false is behind g = one_more key text (Entry k t f) rs (behind g)
