-- Numbers that stay apart under other numbers.
use Rattle.std.specs.Prelude.{◌≡◌, ℕ, List}
use Rattle.ir_edit.specs.Numbered.{new_number}

-- no two numbers get one
abbrev pub IsOneToOne : (ℕ → ℕ) → Type 0
IsOneToOne new = (x y : ℕ) → new x ≡ new y → x ≡ y

-- numbering by places gives no two numbers one
abbrev pub PlacesDiffer : Type 0
PlacesDiffer = (numbers : List ℕ) → IsOneToOne (new_number numbers)
