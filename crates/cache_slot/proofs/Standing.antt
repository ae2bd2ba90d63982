-- Where a record stands after one more was added at the end.
use Rattle.std.proofs.Common.{◌≡◌, ◌≢◌, ℕ, ◌⊎◌, inl, inr, Bool, List, [], ◌∷◌, ◌++◌, refl, ap, ◌∙◌, append_assoc}
use Rattle.cache_slot.specs.declared.record.Record.{Record}
use Rattle.cache_slot.specs.declared.record.Record.TheVariants.{Entry}
use Rattle.cache_slot.specs.Files.{file_of}
use Rattle.cache_slot.specs.Records.{Stands, NoEntryOf}

-- it is the new one, or stood before
pub stands_push : (rs before later : List Record) (r x : Record) → Stands x before later (rs ++ r ∷ [])
    → ((later ≡ []) × (r ≡ x) × (rs ≡ before)) ⊎ ((front : List Record) × (later ≡ front ++ r ∷ []) × Stands x before front rs)
stands_push [] [] later r x e = inl (cc e, cc e, refl)
stands_push [] (b ∷ []) later r x e = absurd (cc e)
stands_push [] (b ∷ c ∷ bs) later r x e = absurd (cc e)
stands_push (a ∷ rest) [] later r x e = let head : a ≡ x = cc e in inr (rest, cc e, ap (λ z. z ∷ rest) head)
stands_push (a ∷ rest) (b ∷ bs) later r x e =
    let head : a ≡ b = cc e in
    let tail : rest ++ r ∷ [] ≡ bs ++ x ∷ later = cc e in
    elim (stands_push rest bs later r x tail) [
      | inl t ↦ inl (t.0, t.1, cc (head, t.2))
      | inr t ↦ inr (t.0, t.1, cc (head, t.2))
    ]

pub none_stands : (before later : List Record) (x : Record) → Stands x before later [] → ⊥
none_stands [] later x e = cc e
none_stands (b ∷ bs) later x e = cc e

-- where no entry of the longer history has the name, none of the shorter has, and the new record is none
pub no_entry_front : (name : List ℕ) (rs : List Record) (r : Record) → NoEntryOf name (rs ++ r ∷ []) → NoEntryOf name rs
no_entry_front name rs r none key text failed before later e =
    none key text failed before (later ++ r ∷ []) (ap (λ z. z ++ r ∷ []) e ∙ append_assoc before (Entry key text failed ∷ later) (r ∷ []))

pub no_entry_last : (name : List ℕ) (rs : List Record) (key text : List ℕ) (failed : Bool) → NoEntryOf name (rs ++ Entry key text failed ∷ []) → file_of key ≢ name
no_entry_last name rs key text failed none = none key text failed rs [] refl
