use Rattle.std.proofs.Common.{◌≡◌, ℕ, ◌&&◌, drop}
use Rattle.ir_tree.specs.declared.operand.Reg.{Reg}
use Rattle.promotable_slots.specs.Slots.{is_accessed_as}
use Rattle.promotable_slots.specs.Accesses.{allows}
use Rattle.promotable_slots.proofs.slots.Accesses.of.Given as goal

abbrev pub invariant-loop-one : goal.invariant-loop-one
invariant-loop-one l = (reg : Reg) (x : ℕ) → (allows l.accesses reg x && is_accessed_as reg x (drop l.one-index l.uses)) ≡ is_accessed_as reg x l.uses
