-- Which initialisers fit a shape (LangRef, "Constants").
use Rattle.std.specs.Prelude.{◌≡◌, ℕ, suc, zero, length, Option, Some, None}
use Rattle.ir_tree.specs.Forms.{Form, int, pointer, array, structure, Forms, no_parts, part}
use Rattle.ir_tree.specs.Initials.{Initial, plain, zeros, bytes, elements, members, Initials, no_initials, initial}
use Rattle.ir_tree.specs.declared.function.Variable.{Variable}
use Rattle.ir_tree.specs.declared.operand.Operand.{Operand}
use Rattle.ir_tree.specs.declared.operand.Operand.TheVariants.{Number, Null, Poison, Symbol}
use Rattle.ir_tree.specs.declared.operand.Reg.TheVariants.{Int, Ptr}

-- an operand for a scalar: a number of its width, an address or null for a pointer, poison for either
abbrev pub FitsScalar : Form → Operand → Type 0
FitsScalar (int w) (Number v bits) = w ≡ v
FitsScalar (int w) (Poison reg) = reg ≡ Int w
FitsScalar pointer Null = Unit {0}
FitsScalar pointer (Symbol symbol offset) = Unit {0}
FitsScalar pointer (Poison reg) = reg ≡ Ptr
FitsScalar _ _ = ⊥

abbrev pub count : Initials → ℕ
count no_initials = zero
count (initial f v vs) = suc (count vs)

-- the shapes that are written before the parts
abbrev pub shapes : Initials → Forms
shapes no_initials = no_parts
shapes (initial f v vs) = part f (shapes vs)

abbrev pub AllOf : Form → Initials → Type 0
AllOf of no_initials = Unit {0}
AllOf of (initial f v vs) = (f ≡ of) × AllOf of vs

-- each part fits the shape that is written before it, and these shapes are those of the whole
abbrev mutual
  pub Fits : Form → Initial → Type 0
  Fits f (plain operand) = FitsScalar f operand
  Fits f zeros = Unit {0}
  Fits f (bytes text) = f ≡ array (length text) (int 8)
  Fits f (elements parts) = ((of : Form) × (f ≡ array (count parts) of) × AllOf of parts) × AllFit parts
  Fits f (members packed parts) = (f ≡ structure packed (shapes parts)) × AllFit parts

  pub AllFit : Initials → Type 0
  AllFit no_initials = Unit {0}
  AllFit (initial f v vs) = Fits f v × AllFit vs

abbrev pub InitFits : Form → Option Initial → Type 0
InitFits f None = Unit {0}
InitFits f (Some value) = Fits f value

-- the initialiser of a variable, where it has one, fits its shape
abbrev pub FitsShape : Variable → Type 0
FitsShape v = InitFits v.shape v.init
