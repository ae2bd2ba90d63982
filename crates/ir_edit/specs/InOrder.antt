-- In a formed function the numbers follow the text.
use Rattle.std.specs.Prelude.{◌≡◌, ℕ, Some, slice_get}
use Rattle.ir_tree.specs.Formed.{Formed}
use Rattle.ir_tree.specs.declared.function.Function.{Function}
use Rattle.ir_edit.specs.Numbered.{in_text_order, numbers_of}

-- what is defined at a place of the text, counted from 0, gets the place as its number
abbrev pub TextOrderCounts : Type 0
TextOrderCounts = (f : Function) → Formed f → (i x : ℕ) → slice_get (numbers_of f) i ≡ Some x → slice_get (numbers_of (in_text_order f)) i ≡ Some i
