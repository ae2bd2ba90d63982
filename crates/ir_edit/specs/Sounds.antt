-- A sound function is sound under other numbers.
use Rattle.std.specs.Prelude.{ℕ}
use Rattle.ir_tree.specs.Rules.{Sound}
use Rattle.ir_tree.specs.declared.function.Function.{Function}
use Rattle.ir_tree.specs.Edited.{shifted}
use Rattle.ir_edit.specs.Numbered.{in_text_order}

abbrev pub TextOrderIsSound : Type 0
TextOrderIsSound = (f : Function) → Sound f → Sound (in_text_order f)

abbrev pub ShiftedIsSound : Type 0
ShiftedIsSound = (by : ℕ) (f : Function) → Sound f → Sound (shifted by f)
