-- The stack slots that are promoted: those of scalars whose address is used for loads and stores of their type alone.
use Rattle.std.specs.Prelude.{ℕ, ◌*◌, ◌==◌, nat_le, Bool, true, false, not, ◌&&◌, ◌||◌, if◌then◌else◌, List, [], ◌∷◌, ◌++◌, length, Option, Some, None}
use Rattle.ir_tree.specs.Forms.{Form, int, pointer, array, structure}
use Rattle.ir_tree.specs.declared.block.Block.{Block}
use Rattle.ir_tree.specs.declared.function.Function.{Function}
use Rattle.ir_tree.specs.declared.instr.Instr.{Instr}
use Rattle.ir_tree.specs.declared.instr.Instr.TheVariants.{Alloca}
use Rattle.ir_tree.specs.declared.instr.Line.{Line}
use Rattle.ir_tree.specs.declared.operand.Reg.{Reg}
use Rattle.ir_tree.specs.declared.operand.Reg.TheVariants.{Int, Ptr}
use Rattle.ir_meaning.specs.Execute.{reg_eq}
use Rattle.promotable_slots.specs.Uses.{uses}
use Rattle.promotable_slots.specs.declared.slots.Slot.{Slot}
use Rattle.promotable_slots.specs.declared.uses.Use.{Use}

-- ---- slots of scalars

-- the type of a register that holds what the shape does
abbrev pub scalar : Form → Option Reg
scalar (int width) = Some (Int width)
scalar pointer = Some Ptr
scalar (array count of) = None
scalar (structure packed parts) = None

abbrev pub slot_at : ℕ → Option Reg → List Slot
slot_at x None = []
slot_at x (Some reg) = record { local = x; reg = reg } ∷ []

-- the slot that an `alloca` of a scalar makes, by the local that gets its address
abbrev pub slot_made : Option ℕ → Instr → List Slot
slot_made (Some x) (Alloca shape align) = slot_at x (scalar shape)
slot_made _ _ = []

abbrev pub line_slots : List Line → List Slot
line_slots [] = []
line_slots (l ∷ ls) = slot_made l.local l.instr ++ line_slots ls

-- in the order of the text
abbrev pub slots : List Block → List Slot
slots [] = []
slots (b ∷ bs) = line_slots b.lines ++ slots bs

-- ---- the promotable ones

abbrev pub is_access : Reg → Option Reg → Bool
is_access reg None = false
is_access reg (Some other) = reg_eq other reg

-- each use of the local x is the address of a load or a store of this type
abbrev pub is_accessed_as : Reg → ℕ → List Use → Bool
is_accessed_as reg x [] = true
is_accessed_as reg x (u ∷ us) = (not (u.local == x) || is_access reg u.access) && is_accessed_as reg x us

abbrev pub promotable : List Use → List Slot → List Slot
promotable us [] = []
promotable us (s ∷ ss) = if is_accessed_as s.reg s.local us then s ∷ promotable us ss else promotable us ss

-- none where slots times blocks would be more than 4,000,000
abbrev pub limited : ℕ → List Slot → List Slot
limited blocks ss = if nat_le (length ss * blocks) 4000000 then ss else []

-- the slots of a function that are promoted, in the order of their `alloca`s
abbrev pub promoted_slots : Function → List Slot
promoted_slots f = limited (length f.blocks) (promotable (uses f.blocks) (slots f.blocks))
