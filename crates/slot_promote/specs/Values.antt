-- The value of each promoted slot at each point of a block.
use Rattle.std.specs.Prelude.{ℕ, suc, ◌+◌, ◌==◌, Bool, true, false, if◌then◌else◌, List, [], ◌∷◌, Option, Some, None}
use Rattle.ir_tree.specs.declared.instr.Instr.{Instr}
use Rattle.ir_tree.specs.declared.instr.Instr.TheVariants.{Alloca, Load, Store}
use Rattle.ir_tree.specs.declared.instr.Line.{Line}
use Rattle.ir_tree.specs.declared.operand.Operand.{Operand}
use Rattle.ir_tree.specs.declared.operand.Operand.TheVariants.{Local, Poison}
use Rattle.ir_tree.specs.declared.operand.Reg.{Reg}
use Rattle.ir_tree.specs.declared.operand.Reg.TheVariants.{Ptr}
use Rattle.ir_meaning.specs.Promote.{Current, Fetches, Makes, Other, Use, Writes, behind, chosen_value}
use Rattle.slot_promote.specs.declared.slots.SlotRank.{SlotRank}
use Rattle.promotable_slots.specs.declared.slots.Slot.{Slot}

-- ---- which locals are slots

-- the place of the local x among the slots, of which the first has the rank k
abbrev pub placed : ℕ → List Slot → ℕ → Option SlotRank
placed k [] x = None
placed k (s ∷ ss) x = if s.local == x then Some (record { rank = k; reg = s.reg }) else placed (suc k) ss x

abbrev pub is_there : Option SlotRank → Bool
is_there None = false
is_there (Some p) = true

abbrev pub rank_of : Option SlotRank → ℕ
rank_of None = 0
rank_of (Some p) = p.rank

abbrev pub reg_of : Option SlotRank → Reg
reg_of None = Ptr
reg_of (Some p) = p.reg

-- the type of each slot
abbrev pub regs : (ℕ → Option SlotRank) → ℕ → Reg
regs at x = reg_of (at x)

-- ---- what a line does with a slot

abbrev pub makes : (ℕ → Option SlotRank) → Option ℕ → Use
makes at None = Other
makes at (Some x) = if is_there (at x) then Makes x else Other

abbrev pub writes : (ℕ → Option SlotRank) → Operand → Operand → Use
writes at value (Local x) = if is_there (at x) then Writes x value else Other
writes at value _ = Other

abbrev pub fetches : (ℕ → Option SlotRank) → Operand → Use
fetches at (Local x) = if is_there (at x) then Fetches x else Other
fetches at _ = Other

abbrev pub use_of : (ℕ → Option SlotRank) → Option ℕ → Instr → Use
use_of at local (Alloca shape align) = makes at local
use_of at local (Store reg value address align) = writes at value address
use_of at local (Load reg address align) = fetches at address
use_of at local _ = Other

-- ---- values

-- at a block's start a slot has the value of its phi, of which the first slot's has the number n; poison where there is none
abbrev pub value_at_start : Option ℕ → Option SlotRank → Operand
value_at_start None p = Poison (reg_of p)
value_at_start (Some n) p = Local (n + rank_of p)

abbrev pub at_start : (ℕ → Option SlotRank) → Option ℕ → Current
at_start at first x = value_at_start first (at x)

-- behind a line it is poison at the slot's `alloca`, what is stored at a store to it, and else what it was before
abbrev pub behind_line : (ℕ → Option SlotRank) → Line → Current → Current
behind_line at l c = behind (regs at) (use_of at l.local l.instr) c

abbrev pub behind_lines : (ℕ → Option SlotRank) → Current → List Line → Current
behind_lines at c [] = c
behind_lines at c (l ∷ ls) = behind_lines at (behind_line at l c) ls

-- ---- lines

abbrev pub is_slot : (ℕ → Option SlotRank) → Operand → Bool
is_slot at (Local x) = is_there (at x)
is_slot at _ = false

abbrev pub local_goes : (ℕ → Option SlotRank) → Option ℕ → Bool
local_goes at None = false
local_goes at (Some x) = is_there (at x)

-- the `alloca` of a slot goes, and so does a store to one
abbrev pub goes : (ℕ → Option SlotRank) → Option ℕ → Instr → Bool
goes at local (Alloca shape align) = local_goes at local
goes at local (Store reg value address align) = is_slot at address
goes at local _ = false

abbrev pub load_with : (ℕ → Option SlotRank) → Current → Instr → Operand → Instr
load_with at c load (Local x) = if is_there (at x) then chosen_value (reg_of (at x)) (c x) else load
load_with at c load _ = load

-- a load of a slot whose value is v becomes `select i1 true, v, v`
abbrev pub instr_with : (ℕ → Option SlotRank) → Current → Instr → Instr
instr_with at c (Load reg address align) = load_with at c (Load reg address align) address
instr_with at c i = i

abbrev pub without_slots : (ℕ → Option SlotRank) → Current → List Line → List Line
without_slots at c [] = []
without_slots at c (l ∷ ls) =
    if goes at l.local l.instr then without_slots at (behind_line at l c) ls
    else record { local = l.local; instr = instr_with at c l.instr } ∷ without_slots at (behind_line at l c) ls
