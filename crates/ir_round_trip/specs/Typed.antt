-- Modules whose constants are of the types that stand before them, and whose initialisers have parts of shapes that memory may
-- hold: what is read is such, sound or not (LangRef, "Simple Constants", "Complex Constants").
use Rattle.std.specs.Prelude.{Option, Some, None, All}
use Rattle.std.specs.List.{AllByRecursion as Each}
use Rattle.ir_parse_names.specs.Variables.{constant_type}
use Rattle.ir_tree.specs.Forms.{Form}
use Rattle.ir_tree.specs.Initials.{Initial, Initials, plain, zeros, bytes, elements, members, no_initials, initial}
use Rattle.ir_tree.specs.Items.{items}
use Rattle.ir_tree.specs.declared.function.Function.{Function}
use Rattle.ir_tree.specs.declared.module.GlobalValue.{GlobalValue}
use Rattle.ir_tree.specs.declared.module.GlobalValue.TheVariants as globals
use Rattle.ir_tree.specs.declared.module.Module.{Module}
use Rattle.ir_round_trip.specs.PartsReadable.{ShapeReadable}
use Rattle.ir_round_trip.specs.PrintedTyped.{ItemTyped, OperandTyped}

abbrev pub FunctionTyped : Function → Type 0
FunctionTyped f = All ItemTyped (items f)

-- what begins a shape is of its type, or of i1 where it is no scalar
abbrev mutual
  pub InitialTyped : Form → Initial → Type 0
  InitialTyped f (plain x) = OperandTyped (constant_type f) x
  InitialTyped f zeros = Unit {0}
  InitialTyped f (bytes text) = Unit {0}
  InitialTyped f (elements parts) = InitialsTyped parts
  InitialTyped f (members packed parts) = InitialsTyped parts

  pub InitialsTyped : Initials → Type 0
  InitialsTyped no_initials = Unit {0}
  InitialsTyped (initial f v vs) = ShapeReadable f × InitialTyped f v × InitialsTyped vs

abbrev pub InitTyped : Form → Option Initial → Type 0
InitTyped f None = Unit {0}
InitTyped f (Some v) = InitialTyped f v

abbrev pub ValueTyped : GlobalValue → Type 0
ValueTyped (globals.Variable v) = InitTyped v.shape v.init
ValueTyped (globals.Function f) = FunctionTyped f

abbrev pub ModuleTyped : Module → Type 0
ModuleTyped m = Each ValueTyped m.globals
