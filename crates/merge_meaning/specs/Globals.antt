-- Global values under other names for their symbols, and the symbols that initialisers name.
use Rattle.std.specs.Prelude.{Bool, map, option_map}
use Rattle.ir_tree.specs.Initials.{Initial, plain, zeros, bytes, elements, members, Initials, no_initials, initial}
use Rattle.ir_tree.specs.declared.function.Function.{Function}
use Rattle.ir_tree.specs.declared.function.Variable.{Variable}
use Rattle.ir_tree.specs.declared.module.GlobalValue.{GlobalValue}
use Rattle.ir_tree.specs.declared.module.GlobalValue.TheVariants as global
use Rattle.ir_tree.specs.declared.operand.Symbol.{Symbol}
use Rattle.ir_meaning.specs.Refine.{Naming}
use Rattle.ir_meaning.specs.Rename.{OperandNames, block_under, operand_under}

-- these names for symbols; no tree speaks of the numbers of variables
abbrev pub named_by : (Symbol → Symbol) → Naming
named_by name = record { symbol = name; variable = λ l. l; count = 0; count' = 0 }

abbrev mutual
  pub initial_under : Naming → Initial → Initial
  initial_under t (plain operand) = plain (operand_under t operand)
  initial_under t zeros = zeros
  initial_under t (bytes text) = bytes text
  initial_under t (elements parts) = elements (initials_under t parts)
  initial_under t (members packed parts) = members packed (initials_under t parts)

  pub initials_under : Naming → Initials → Initials
  initials_under t no_initials = no_initials
  initials_under t (initial f v vs) = initial f (initial_under t v) (initials_under t vs)

abbrev pub variable_under : Naming → Variable → Variable
variable_under t v = record v { symbol = t.symbol v.symbol; init = option_map (initial_under t) v.init }

abbrev pub function_under : Naming → Function → Function
function_under t f = record f { symbol = t.symbol f.symbol; blocks = map (block_under t) f.blocks }

-- a global value, and all that it refers to, under the other names
abbrev pub global_under : Naming → GlobalValue → GlobalValue
global_under t (global.Variable v) = global.Variable (variable_under t v)
global_under t (global.Function f) = global.Function (function_under t f)

-- only kept symbols are named
abbrev mutual
  pub InitialNames : (Symbol → Bool) → Initial → Type 0
  InitialNames keeps (plain operand) = OperandNames keeps operand
  InitialNames keeps zeros = Unit {0}
  InitialNames keeps (bytes text) = Unit {0}
  InitialNames keeps (elements parts) = InitialsName keeps parts
  InitialNames keeps (members packed parts) = InitialsName keeps parts

  pub InitialsName : (Symbol → Bool) → Initials → Type 0
  InitialsName keeps no_initials = Unit {0}
  InitialsName keeps (initial f v vs) = InitialNames keeps v × InitialsName keeps vs
