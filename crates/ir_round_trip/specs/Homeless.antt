-- Symbols of no module of their own, as those of every module that was read.
use Rattle.std.specs.Prelude.{◌≡◌, None, All}
use Rattle.ir_tree.specs.Items.{Item, operands}
use Rattle.ir_tree.specs.declared.operand.Operand.{Operand}
use Rattle.ir_tree.specs.declared.operand.Operand.TheVariants.{Symbol}

abbrev pub IsHomeless : Operand → Type 0
IsHomeless (Symbol symbol offset) = symbol.home ≡ None
IsHomeless x = Unit {0}

abbrev pub ItemHomeless : Item → Type 0
ItemHomeless item = All (λ a. IsHomeless a.operand) (operands item)
