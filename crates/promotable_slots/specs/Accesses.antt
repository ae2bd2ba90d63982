-- What the table of accesses by local says.
use Rattle.std.specs.Prelude.{ℕ, nat_eq, Bool, true, Option, Some, None}
use Rattle.std.specs.HashMap as hash
use Rattle.ir_tree.specs.declared.operand.Reg.{Reg}
use Rattle.promotable_slots.specs.Slots.{is_access}
use Rattle.promotable_slots.specs.declared.slots.Accesses.{Accesses}

abbrev pub allowed : Reg → Option (Option Reg) → Bool
allowed reg None = true
allowed reg (Some access) = is_access reg access

-- each use of the local so far is an access of this type
abbrev pub allows : Accesses → Reg → ℕ → Bool
allows a reg x = allowed reg (hash.get nat_eq a.by_local x)
