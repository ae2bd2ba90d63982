use Rattle.std.proofs.Common.{◌≡◌, ◌++◌, ℕ, List, drop}
use Rattle.ir_tree.specs.declared.operand.Reg.{Reg}
use Rattle.promotable_slots.specs.Slots.{is_accessed_as, promotable}
use Rattle.promotable_slots.specs.Accesses.{allows}
use Rattle.promotable_slots.specs.declared.uses.Use.{Use}
use Rattle.promotable_slots.proofs.slots.allowed.Given as goal

abbrev pub invariant-loop-slot : goal.invariant-loop-slot
invariant-loop-slot l = (us : List Use) → ((reg : Reg) (x : ℕ) → allows l.accesses reg x ≡ is_accessed_as reg x us) → l.kept.items ++ promotable us (drop l.slot-index l.slots) ≡ promotable us l.slots
