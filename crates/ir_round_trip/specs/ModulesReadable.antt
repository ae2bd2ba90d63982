-- Modules whose printed form is read again: their globals are such, their data layout is one that is supported, and they
-- define and declare as many names as the grammar takes (LangRef, "Module Structure", "Data Layout").
use Rattle.std.specs.Prelude.{◌≡◌, ℕ, ◌≤◌, true, List, [], ◌∷◌, length}
use Rattle.std.specs.List.{AllByRecursion as Each}
use Rattle.ir_parse.specs.Modules.{FURTHER_PARAMETERS, GLOBAL_NAMES}
use Rattle.ir_parse_heads.specs.Targets.{fits_layout}
use Rattle.ir_tree.specs.Names.{AllBytes}
use Rattle.ir_tree.specs.declared.block.Block.{Block}
use Rattle.ir_tree.specs.declared.function.Function.{Function}
use Rattle.ir_tree.specs.declared.module.GlobalValue.{GlobalValue}
use Rattle.ir_tree.specs.declared.module.GlobalValue.TheVariants as globals
use Rattle.ir_tree.specs.declared.module.Module.{Module}
use Rattle.ir_round_trip.specs.Readable.{DefinitionReadable}
use Rattle.ir_round_trip.specs.VariablesReadable.{VariableReadable}
use Rattle.ir_round_trip.specs.PartsReadable.{HeadReadable}

-- with so many parameters at most behind the first
abbrev pub FunctionReadable : ℕ → List Block → Function → Type 0
FunctionReadable room [] f = HeadReadable room f
FunctionReadable room (b ∷ bs) f = DefinitionReadable room f

abbrev pub GlobalReadable : ℕ → GlobalValue → Type 0
GlobalReadable room (globals.Variable v) = VariableReadable v
GlobalReadable room (globals.Function f) = FunctionReadable room f.blocks f

-- no layout, or one that is supported
abbrev pub LayoutReadable : List ℕ → Type 0
LayoutReadable [] = Unit {0}
LayoutReadable (b ∷ bs) = AllBytes (b ∷ bs) × (fits_layout (b ∷ bs) ≡ true)

pub record ModuleReadable (m : Module) : Type 0 where
  pub layout : LayoutReadable m.datalayout
  pub globals : Each (GlobalReadable FURTHER_PARAMETERS) m.globals
  pub few : length m.globals ≤ GLOBAL_NAMES
