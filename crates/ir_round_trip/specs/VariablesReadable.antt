-- Variables whose printed form is read again: shapes that memory may hold, alignments, names that can be printed, and
-- constants of the type that stands before them (LangRef, "Global Variables", "Constants").
use Rattle.std.specs.Prelude.{Option, Some, None}
use Rattle.ir_parse_globals.specs.Constants.{type_of}
use Rattle.ir_parse_globals.specs.Initialisers.{scalar_of}
use Rattle.ir_tree.specs.Formed.{IsAlignment}
use Rattle.ir_tree.specs.Forms.{Form}
use Rattle.ir_tree.specs.Initials.{Initial, Initials, plain, zeros, bytes, elements, members, no_initials, initial}
use Rattle.ir_tree.specs.declared.function.Variable.{Variable}
use Rattle.ir_tree.specs.declared.operand.Operand.{Operand}
use Rattle.ir_tree.specs.declared.operand.Operand.TheVariants.{Local}
use Rattle.ir_tree.specs.declared.operand.Reg.{Reg}
use Rattle.ir_round_trip.specs.PartsPrinted.{written_shape}
use Rattle.ir_round_trip.specs.PartsReadable.{OperandReadable, ShapeReadable}
use Rattle.ir_round_trip.specs.Classes.{IsOrdinary}
use Rattle.ir_round_trip.specs.Printable.{IsName}

-- an operand that is no local
abbrev pub ConstantReadable : Reg → Operand → Type 0
ConstantReadable reg (Local n) = ⊥
ConstantReadable reg x = OperandReadable reg x

-- a constant is of the scalar that stands before it, and where none does, of i1, as the grammar has it
abbrev mutual
  pub InitialReadable : Form → Initial → Type 0
  InitialReadable f (plain x) = ConstantReadable (type_of (scalar_of (written_shape f))) x
  InitialReadable f zeros = Unit {0}
  InitialReadable f (bytes text) = Unit {0}
  InitialReadable f (elements parts) = InitialsReadable parts
  InitialReadable f (members packed parts) = InitialsReadable parts

  pub InitialsReadable : Initials → Type 0
  InitialsReadable no_initials = Unit {0}
  InitialsReadable (initial f v vs) = ShapeReadable f × InitialReadable f v × InitialsReadable vs

abbrev pub InitReadable : Form → Option Initial → Type 0
InitReadable f None = Unit {0}
InitReadable f (Some v) = InitialReadable f v

pub record VariableReadable (v : Variable) : Type 0 where
  pub name : IsName v.symbol.name
  pub ordinary : IsOrdinary v.symbol.name
  pub shape : ShapeReadable v.shape
  pub init : InitReadable v.shape v.init
  pub align : IsAlignment v.align
