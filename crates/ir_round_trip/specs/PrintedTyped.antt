-- Items of functions in which each constant is of the type that stands before it, as the grammar has it (LangRef, "Simple
-- Constants").
use Rattle.std.specs.Prelude.{◌≡◌, ◌⊎◌, ℕ}
use Rattle.std.specs.List.{AllByRecursion as Each}
use Rattle.ir_tree.specs.Items.{Item, phi_item, line_item, end_item, operands}
use Rattle.ir_tree.specs.declared.block.Case.{Case}
use Rattle.ir_tree.specs.declared.block.Terminator.{Terminator}
use Rattle.ir_tree.specs.declared.block.Terminator.TheVariants.{Switch}
use Rattle.ir_tree.specs.declared.operand.Argument.{Argument}
use Rattle.ir_tree.specs.declared.operand.Operand.{Operand}
use Rattle.ir_tree.specs.declared.operand.Operand.TheVariants.{Number, Poison}
use Rattle.ir_tree.specs.declared.operand.Reg.{Reg}
use Rattle.ir_tree.specs.declared.operand.Reg.TheVariants.{Int}

-- a number of one bit is a word, which may stand behind any type
abbrev pub NumberTyped : Reg → ℕ → Type 0
NumberTyped reg width = (width ≡ 1) ⊎ (reg ≡ Int width)

abbrev pub OperandTyped : Reg → Operand → Type 0
OperandTyped reg (Number width bits) = NumberTyped reg width
OperandTyped reg (Poison r) = r ≡ reg
OperandTyped reg _ = Unit {0}

abbrev pub ArgumentTyped : Argument → Type 0
ArgumentTyped a = OperandTyped a.reg a.operand

abbrev pub CaseTyped : Case → Type 0
CaseTyped c = NumberTyped c.reg c.width

abbrev pub EndTyped : Terminator → Type 0
EndTyped (Switch width value default cases) = Each CaseTyped cases
EndTyped _ = Unit {0}

abbrev pub KindTyped : Item → Type 0
KindTyped (phi_item b phi) = Unit {0}
KindTyped (line_item b k l) = Unit {0}
KindTyped (end_item b t) = EndTyped t

pub record ItemTyped (item : Item) : Type 0 where
  pub operands : Each ArgumentTyped (operands item)
  pub kind : KindTyped item
