-- The part of a struct to which an index leads.
use Rattle.std.specs.Prelude.{◌≡◌, ℕ, List, slice_get, Some}
use Rattle.ir_tree.specs.Forms.{Form}
use Rattle.ir_tree.specs.Items.{typed}
use Rattle.ir_tree.specs.declared.operand.Argument.{Argument}
use Rattle.ir_tree.specs.declared.operand.Operand.TheVariants.{Number}
use Rattle.ir_tree.specs.declared.operand.Reg.TheVariants.{Int}

abbrev pub LeadsTo : List Form → Argument → Form → Type 0
LeadsTo parts index f = (k : ℕ) × (index ≡ typed (Int 32) (Number 32 k)) × (slice_get parts k ≡ Some f)

abbrev pub LeadsNowhere : List Form → Argument → Type 0
LeadsNowhere parts index = (f : Form) → LeadsTo parts index f → ⊥
