-- The new numbers that a table stands for.
use Rattle.std.specs.Prelude.{ℕ, ◌+◌}
use Rattle.std.specs.BTreeMap as tree
use Rattle.std.specs.Ordering.{nat_cmp}
use Rattle.ir_edit.specs.Numbered.{or_behind}
use Rattle.ir_edit.specs.declared.numbering.Numbering.{Numbering}

abbrev pub number_in : Numbering → ℕ → ℕ
number_in n x = or_behind (tree.get nat_cmp n.places x) (x + n.count)
