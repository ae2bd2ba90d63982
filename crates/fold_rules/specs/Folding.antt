-- The operand that stands for the value of an instruction, as the rule table has it.
use Rattle.std.specs.Prelude.{Option, option_map}
use Rattle.ir_tree.specs.declared.operand.Operand.{Operand}
use Rattle.ir_tree.specs.declared.operand.Operand.TheVariants.{Number as Constant, Poison as PoisonOf, Symbol as Named}
use Rattle.fold_rules.specs.declared.folded.Folded.{Folded}
use Rattle.fold_rules.specs.declared.folded.Folded.TheVariants.{Same, Number, Poison, Address}

abbrev pub operand_of : Folded → Operand
operand_of (Same operand) = operand.now
operand_of (Number width bits) = Constant width bits
operand_of (Poison reg) = PoisonOf reg
operand_of (Address symbol offset) = Named symbol.now offset

-- the operand of a row, where one fits
abbrev pub row_of : Option Folded → Option Operand
row_of r = option_map operand_of r
