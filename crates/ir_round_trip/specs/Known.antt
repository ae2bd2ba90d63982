-- Modules whose names are known: each global name is there once, each that is used is there, and in each function the locals
-- and blocks follow its text (LangRef, "Module Structure", "Identifiers").
use Rattle.std.specs.List.{AllByRecursion as Each}
use Rattle.ir_tree.specs.Names.{AllBytes}
use Rattle.ir_tree.specs.Wholes.{Whole}
use Rattle.ir_tree.specs.declared.module.GlobalValue.{GlobalValue}
use Rattle.ir_tree.specs.declared.module.GlobalValue.TheVariants as globals
use Rattle.ir_tree.specs.declared.module.Module.{Module}
use Rattle.ir_round_trip.specs.PrintedKnown.{FunctionKnown, VariableKnown}

abbrev pub ValueKnown : GlobalValue → Type 0
ValueKnown (globals.Variable v) = VariableKnown v
ValueKnown (globals.Function f) = FunctionKnown f

pub record ModuleKnown (m : Module) : Type 0 where
  pub whole : Whole m.globals
  pub values : Each ValueKnown m.globals
  -- the target triple is a string of bytes
  pub triple : AllBytes m.triple
