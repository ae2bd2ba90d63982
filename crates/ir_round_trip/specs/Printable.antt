-- Modules that have a printed form: names are bytes, none of them zero (LangRef, "Identifiers").
use Rattle.std.specs.Prelude.{◌≡◌, ℕ, false, List, All}
use Rattle.ir_lex.specs.Quotes.{has_zero}
use Rattle.ir_tree.specs.Items.{items, operands}
use Rattle.ir_tree.specs.Names.{AllBytes}
use Rattle.ir_tree.specs.Wholes.{init_operands}
use Rattle.ir_tree.specs.declared.function.Function.{Function}
use Rattle.ir_tree.specs.declared.function.Variable.{Variable}
use Rattle.ir_tree.specs.declared.module.GlobalValue.{GlobalValue}
use Rattle.ir_tree.specs.declared.module.GlobalValue.TheVariants as globals
use Rattle.ir_tree.specs.declared.module.Module.{Module}
use Rattle.ir_tree.specs.declared.operand.Operand.{Operand}
use Rattle.ir_tree.specs.declared.operand.Operand.TheVariants.{Local, Number, Null, Poison, Symbol}

pub record IsName (name : List ℕ) : Type 0 where
  pub bytes : AllBytes name
  pub no_zero : has_zero name ≡ false

abbrev pub OperandPrintable : Operand → Type 0
OperandPrintable (Local n) = Unit {0}
OperandPrintable (Number width bits) = Unit {0}
OperandPrintable Null = Unit {0}
OperandPrintable (Poison reg) = Unit {0}
OperandPrintable (Symbol symbol offset) = IsName symbol.name

pub record VariablePrintable (v : Variable) : Type 0 where
  pub name : IsName v.symbol.name
  pub operands : All OperandPrintable (init_operands v.init)

pub record FunctionPrintable (f : Function) : Type 0 where
  pub name : IsName f.symbol.name
  pub operands : All (λ item. All (λ a. OperandPrintable a.operand) (operands item)) (items f)

abbrev pub GlobalPrintable : GlobalValue → Type 0
GlobalPrintable (globals.Variable v) = VariablePrintable v
GlobalPrintable (globals.Function f) = FunctionPrintable f

-- what its text names can be written
abbrev pub IsPrintable : Module → Type 0
IsPrintable m = All GlobalPrintable m.globals
