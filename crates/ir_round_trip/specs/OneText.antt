-- Modules that their printed text tells whole (LangRef, "Module Structure").
use Rattle.std.specs.Prelude.{◌≡◌}
use Rattle.std.specs.List.{AllByRecursion as Each}
use Rattle.ir_print.specs.Modules.{module_text}
use Rattle.ir_tree.specs.Wholes.{IsVerified, symbols}
use Rattle.ir_tree.specs.declared.module.Module.{Module}
use Rattle.ir_round_trip.specs.ModulesReadable.{LayoutReadable}
use Rattle.ir_round_trip.specs.Numbered.{ModuleNumbered}
use Rattle.ir_round_trip.specs.Within.{NameWithin, ValueWithin}

-- a verified module whose locals are numbered along its text, and each of whose names and values is within the grammar's limits; there may
-- be more of them than the grammar takes
pub record ModuleSpelled (m : Module) : Type 0 where
  pub verified : IsVerified m
  pub numbered : ModuleNumbered m
  pub layout : LayoutReadable m.datalayout
  pub names : Each NameWithin (symbols m.globals)
  pub values : Each ValueWithin m.globals

-- those with one text are one
abbrev pub PrintedIsOne : Type 0
PrintedIsOne = (m n : Module) → ModuleSpelled m → ModuleSpelled n → module_text m ≡ module_text n → m ≡ n
