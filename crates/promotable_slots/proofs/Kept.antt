-- The slots that are kept of those from one place on.
use Rattle.std.proofs.Common.{◌≡◌, ℕ, ◌+◌, ◌<◌, Bool, true, false, List, [], ◌∷◌, ◌++◌, length, get_or, drop, sym, ◌∙◌, ap, if◌then◌else◌, append_assoc}
use Rattle.std.proofs.lemmas.List.{drop_more}
use Rattle.promotable_slots.specs.Slots.{is_accessed_as, promotable}
use Rattle.promotable_slots.specs.declared.slots.Slot.{Slot}
use Rattle.promotable_slots.specs.declared.uses.Use.{Use}

pub slot_kept : (us : List Use) (slots : List Slot) (i : ℕ) (d : Slot) (kept more : List Slot) → i < length slots → is_accessed_as (get_or slots i d).reg (get_or slots i d).local us ≡ true → more ≡ kept ++ get_or slots i d ∷ []
    → more ++ promotable us (drop (i + 1) slots) ≡ kept ++ promotable us (drop i slots)
slot_kept us slots i d kept more lt allowed pushed =
    ap (λ l. l ++ promotable us (drop (i + 1) slots)) pushed
    ∙ append_assoc kept (get_or slots i d ∷ []) (promotable us (drop (i + 1) slots))
    ∙ ap (λ (b : Bool). kept ++ (if b then get_or slots i d ∷ promotable us (drop (i + 1) slots) else promotable us (drop (i + 1) slots))) (sym allowed)
    ∙ ap (λ l. kept ++ promotable us l) (sym (drop_more slots i d lt))

pub slot_left : (us : List Use) (slots : List Slot) (i : ℕ) (d : Slot) (kept : List Slot) → i < length slots → is_accessed_as (get_or slots i d).reg (get_or slots i d).local us ≡ false
    → kept ++ promotable us (drop (i + 1) slots) ≡ kept ++ promotable us (drop i slots)
slot_left us slots i d kept lt refused =
    ap (λ (b : Bool). kept ++ (if b then get_or slots i d ∷ promotable us (drop (i + 1) slots) else promotable us (drop (i + 1) slots))) (sym refused)
    ∙ ap (λ l. kept ++ promotable us l) (sym (drop_more slots i d lt))
