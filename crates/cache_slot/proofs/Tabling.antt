-- The texts of keys, as one more record is added.
use Rattle.std.proofs.Common.{◌≡◌, ℕ, Bool, true, false, cond, List, [], ◌∷◌, ◌++◌, Option, Some, None, Result, Ok, Err, refl, sym, ap, ◌∙◌}
use Rattle.std.specs.Prelude.{IsOk, OnOk}
use Rattle.std.specs.Str.{bytes_eq}
use Rattle.std.proofs.lemmas.Slice.Eq.{bytes_eq-Decides}
use Rattle.cache_slot.specs.declared.record.Record.{Record}
use Rattle.cache_slot.specs.declared.record.Record.TheVariants.{Entry, Again, Hit, Miss}
use Rattle.cache_slot.specs.Records.{text_of, IsNoEntry}

-- a record that is no entry changes no key's text
pub text_noted : (key : List ℕ) (rs : List Record) (r : Record) → IsNoEntry r → text_of key (rs ++ r ∷ []) ≡ text_of key rs
text_noted key [] (Entry k t failed) none = absurd (none k t failed refl)
text_noted key [] (Again k) none = refl
text_noted key [] (Hit k) none = refl
text_noted key [] (Miss k why) none = refl
text_noted key (Entry k t failed ∷ rs) r none = ap (λ (z : Option (List ℕ)). cond (bytes_eq k key) (Some t) z) (text_noted key rs r none)
text_noted key (Again k ∷ rs) r none = text_noted key rs r none
text_noted key (Hit k ∷ rs) r none = text_noted key rs r none
text_noted key (Miss k why ∷ rs) r none = text_noted key rs r none

-- two keys are equal where a third equals both
both : (j k key : List ℕ) → bytes_eq j key ≡ true → bytes_eq k key ≡ true → bytes_eq j k ≡ true
both j k key a b = (bytes_eq-Decides j k).1 ((bytes_eq-Decides j key).0 a ∙ sym ((bytes_eq-Decides k key).0 b))

-- the first entry of a key is its text, and changes no other's
pub text_entered : (key : List ℕ) (rs : List Record) (k t : List ℕ) (failed : Bool) → text_of k rs ≡ None → text_of key (rs ++ Entry k t failed ∷ []) ≡ cond (bytes_eq k key) (Some t) (text_of key rs)
text_entered key [] k t failed none = refl
text_entered key (Again j ∷ rs) k t failed none = text_entered key rs k t failed none
text_entered key (Hit j ∷ rs) k t failed none = text_entered key rs k t failed none
text_entered key (Miss j why ∷ rs) k t failed none = text_entered key rs k t failed none
text_entered key (Entry j u f ∷ rs) k t failed none = by (bytes_eq j k) refl (bytes_eq j key) refl (bytes_eq k key) refl (text_entered key rs k t failed) none
  where
    by : (a : Bool) → bytes_eq j k ≡ a → (b : Bool) → bytes_eq j key ≡ b → (c : Bool) → bytes_eq k key ≡ c
        → (text_of k rs ≡ None → text_of key (rs ++ Entry k t failed ∷ []) ≡ cond c (Some t) (text_of key rs)) → cond a (Some u) (text_of k rs) ≡ None
        → cond b (Some u) (text_of key (rs ++ Entry k t failed ∷ [])) ≡ cond c (Some t) (cond b (Some u) (text_of key rs))
    by true d b e c g behind n = absurd (cc n)
    by false d false e c g behind n = behind n
    by false d true e false g behind n = refl
    by false d true e true g behind n = absurd (let q : true ≡ false = sym (both j k key e g) ∙ d in cc q)

-- what is said of a success
pub done : {A E : Type 0} (P : Type 0) (answer : Result A E) → IsOk answer → OnOk answer P → P
done P (Ok a) ok is = is
done P (Err e) ok is = absurd (cc ok)
