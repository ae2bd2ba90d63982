-- What lists by numbers have.
use Rattle.std.specs.Prelude.{ℕ, ◌+◌, List, [], ◌∷◌, length, slice_get, Option, Some, None}
use Rattle.std.specs.declared.vec.Vec.{Vec}
use Rattle.dead_code.specs.declared.lists.Lists.{Lists}

abbrev pub items_or_none : {Z : Type 0} → Option (Vec ℕ Z) → List ℕ
items_or_none (Some v) = v.items
items_or_none None = []

abbrev pub list_at : {Z : Type 0} → List (Vec ℕ Z) → ℕ → List ℕ
list_at rows n = items_or_none (slice_get rows n)

abbrev pub list_in : Lists → ℕ → List ℕ
list_in l n = list_at l.rows.items n

abbrev pub lengths : {Z : Type 0} → List (Vec ℕ Z) → ℕ
lengths [] = 0
lengths (v ∷ rows) = length v.items + lengths rows

-- how many items all lists have
abbrev pub total : Lists → ℕ
total l = lengths l.rows.items
