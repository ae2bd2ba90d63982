-- What the grammar makes of the items of a module.
use Rattle.std.specs.Prelude.{◌≡◌, Bool, false, [], Option, Some, None}
use Rattle.std.specs.List.{AllByRecursion as Each}
use Rattle.ir_parse_parts.specs.declared.raw.FunctionHeader.{FunctionHeader}
use Rattle.ir_parse_parts.specs.declared.raw.Init.{Init}
use Rattle.ir_parse_parts.specs.declared.raw.InitPart.{InitPart}
use Rattle.ir_parse_parts.specs.declared.raw.InitPart.TheVariants as parts
use Rattle.ir_parse_parts.specs.declared.raw.Item.{Item}
use Rattle.ir_parse_parts.specs.declared.raw.Item.TheVariants as item
use Rattle.ir_parse_names.specs.Types.{shape_if}
use Rattle.ir_parse.specs.Written.{IsWritten, ShapeWritten, TypeWritten, VariableWritten}

-- no attribute of a declaration is kept
pub record IsDeclared (head : FunctionHeader) : Type 0 where
  pub written : IsWritten head [] false false
  pub noinline : head.noinline ≡ false
  pub optnone : head.optnone ≡ false
  pub groups : head.groups ≡ []

-- the shapes of an initialiser's parts
abbrev pub PartShaped : InitPart → Type 0
PartShaped (parts.Typed typed head) = ShapeWritten typed.shape
PartShaped parts.End = Unit {0}

abbrev pub InitShaped : Option Init → Type 0
InitShaped None = Unit {0}
InitShaped (Some i) = Each PartShaped i.parts

-- a definition is written whatever its attribute groups say of it
abbrev pub ItemWritten : Item → Type 0
ItemWritten (item.Type name typed) = TypeWritten (shape_if typed)
ItemWritten (item.Variable v) = VariableWritten v × InitShaped v.init
ItemWritten (item.Declaration head) = IsDeclared head
ItemWritten (item.Definition head blocks) = (noinline optnone : Bool) → IsWritten head blocks noinline optnone
ItemWritten _ = Unit {0}
