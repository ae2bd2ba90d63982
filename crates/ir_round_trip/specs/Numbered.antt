-- Modules whose locals are numbered along their text, and whose strings are bytes (LangRef, "Identifiers", "Complex
-- Constants").
use Rattle.std.specs.Prelude.{Option, Some, None}
use Rattle.std.specs.List.{AllByRecursion as Each}
use Rattle.ir_tree.specs.Initials.{Initial, Initials, plain, zeros, bytes, elements, members, no_initials, initial}
use Rattle.ir_tree.specs.Names.{AllBytes}
use Rattle.ir_tree.specs.declared.module.GlobalValue.{GlobalValue}
use Rattle.ir_tree.specs.declared.module.GlobalValue.TheVariants as globals
use Rattle.ir_tree.specs.declared.module.Module.{Module}
use Rattle.ir_round_trip.specs.Sorts.{IsNumbered}

-- ---- strings

abbrev mutual
  pub InitialBytes : Initial → Type 0
  InitialBytes (plain x) = Unit {0}
  InitialBytes zeros = Unit {0}
  InitialBytes (bytes text) = AllBytes text
  InitialBytes (elements parts) = InitialsBytes parts
  InitialBytes (members packed parts) = InitialsBytes parts

  pub InitialsBytes : Initials → Type 0
  InitialsBytes no_initials = Unit {0}
  InitialsBytes (initial f v vs) = InitialBytes v × InitialsBytes vs

abbrev pub InitBytes : Option Initial → Type 0
InitBytes None = Unit {0}
InitBytes (Some v) = InitialBytes v

-- ---- modules

abbrev pub StringsAreBytes : GlobalValue → Type 0
StringsAreBytes (globals.Variable v) = InitBytes v.init
StringsAreBytes (globals.Function f) = Unit {0}

abbrev pub LocalsNumbered : GlobalValue → Type 0
LocalsNumbered (globals.Variable v) = Unit {0}
LocalsNumbered (globals.Function f) = IsNumbered f

pub record ModuleNumbered (m : Module) : Type 0 where
  pub strings : Each StringsAreBytes m.globals
  pub locals : Each LocalsNumbered m.globals
  pub triple : AllBytes m.triple
