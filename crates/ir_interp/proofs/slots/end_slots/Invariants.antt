use Rattle.std.proofs.Common.{◌≡◌, ◌-◌, ◌≤◌, ℕ, List, length}
use Rattle.ir_tree.specs.declared.operand.Symbol.{Symbol}
use Rattle.ir_meaning.specs.Memory.{Memory as MeantMemory}
use Rattle.ir_machine.specs.Memories.{numbers_of}
use Rattle.ir_interp.specs.Locals.{IsMemory}
use Rattle.ir_interp.specs.Slots.{AreLast}
use Rattle.ir_interp.proofs.Lives.{Ends}
use Rattle.ir_interp.proofs.slots.end_slots.Given as goal

abbrev pub decreases-loop-left : goal.decreases-loop-left
decreases-loop-left l = l.left

abbrev pub invariant-loop-left : goal.invariant-loop-left
invariant-loop-left l = record {
  some : l.left ≤ l.count;
  within : l.left ≤ length l.memory.blocks.items;
  ends : (names : List Symbol) (meaning : MeantMemory) (slots front : List ℕ) → IsMemory names l.initial.memory meaning → length slots ≡ l.count →
      AreLast (numbers_of l.initial.memory.blocks.items) slots front → Ends names l.initial.memory meaning slots front l.memory (l.count - l.left);
}
