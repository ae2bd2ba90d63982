-- What the parts of open aggregates have to be, and how each part of a flat initialiser changes that.
use Rattle.std.specs.Prelude.{◌≡◌, ◌↔◌, Bool, true, false, List, [], ◌∷◌, Option, Some, None}
use Rattle.ir_tree.specs.Fits.{Fits, AllOf, AllFit, count, shapes}
use Rattle.ir_tree.specs.Forms.{Form, forms_of}
use Rattle.ir_tree.specs.Initials.{Initial, Initials, plain, zeros, bytes, elements, members, initial, Levels, around, read}
use Rattle.ir_tree.specs.declared.init_node.InitHead.{InitHead}
use Rattle.ir_tree.specs.declared.init_node.InitHead.TheVariants.{Plain, Zeros, Bytes, Array, Struct}
use Rattle.ir_tree.specs.declared.init_node.InitPart.{InitPart}
use Rattle.ir_verify.specs.declared.initial.Wanted.{Wanted}
use Rattle.ir_verify.specs.declared.initial.Wanted.TheVariants.{Each, These}

-- these parts are what is wanted
abbrev pub Fills : Wanted → Initials → Type 0
Fills (Each left of) vs = (count vs ≡ left) × AllOf of.now vs × AllFit vs
Fills (These parts) vs = (shapes vs ≡ forms_of parts.now) × AllFit vs

-- so are the parts of each level, the innermost first
abbrev pub AllFill : List Wanted → Levels → Type 0
AllFill [] l = Unit {0}
AllFill (w ∷ ws) l = Fills w l.0 × AllFill ws (around l.1)

-- what is wanted behind a part of this shape
abbrev pub Takes : Wanted → Form → Option Wanted → Type 0
Takes w f None = (v : Initial) (vs : Initials) → Fills w (initial f v vs) → ⊥
Takes w f (Some rest) = (v : Initial) (vs : Initials) → Fills w (initial f v vs) ↔ (Fits f v × Fills rest vs)

-- what parts have to be for this to hold of them
abbrev pub Wants : (Initials → Type 0) → Option Wanted → Type 0
Wants P None = (vs : Initials) → P vs → ⊥
Wants P (Some w) = (vs : Initials) → P vs ↔ Fills w vs

abbrev pub Opened : Option Wanted → List Wanted → Bool → List Wanted → Type 0
Opened None open_ones fits now = fits ≡ false
Opened (Some w) open_ones fits now = (fits ≡ true) × (now ≡ w ∷ open_ones)

-- the value that begins so before these levels, and the levels that are left of them behind it
abbrev pub begun_value : InitHead → Levels → Initial
begun_value (Plain operand) l = plain operand
begun_value Zeros l = zeros
begun_value (Bytes text) l = bytes text
begun_value Array l = elements l.0
begun_value (Struct packed) l = members packed l.0

abbrev pub left_by : InitHead → Levels → Levels
left_by (Plain operand) l = l
left_by Zeros l = l
left_by (Bytes text) l = l
left_by Array l = around l.1
left_by (Struct packed) l = around l.1

-- the value that begins so doesn't fit, or it fits and the rest is what was wanted exactly where the levels are what is wanted now
abbrev pub Begins : Form → InitHead → List Wanted → Bool → List Wanted → Type 0
Begins f head open_ones false now = (l : Levels) → Fits f (begun_value head l) → ⊥
Begins f head open_ones true now = (l : Levels) → (Fits f (begun_value head l) × AllFill open_ones (left_by head l)) ↔ AllFill now l

-- the same of a part
abbrev pub GoesOn : InitPart → List Wanted → Bool → List Wanted → Type 0
GoesOn part open_ones false now = (l : Levels) → AllFill open_ones (read part l) → ⊥
GoesOn part open_ones true now = (l : Levels) → AllFill open_ones (read part l) ↔ AllFill now l
