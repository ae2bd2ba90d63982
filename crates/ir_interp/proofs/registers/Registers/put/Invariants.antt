use Rattle.std.proofs.Common.{◌≤◌, ℕ, List, length, take, drop, vec_len}
use Rattle.ir_tree.specs.declared.operand.Symbol.{Symbol}
use Rattle.ir_meaning.specs.Frame.{Locals}
use Rattle.ir_meaning.specs.Memory.{Memory as MeantMemory}
use Rattle.ir_machine.specs.declared.memory.Memory.{Memory}
use Rattle.ir_interp.specs.Locals.{AreLocals}
use Rattle.ir_interp.specs.Phis.{AreTaken, HaveRoom, phis_meant}
use Rattle.ir_interp.proofs.registers.Registers.put.Given as goal

abbrev pub decreases-loop-value : goal.decreases-loop-value
decreases-loop-value l = vec_len l.values

abbrev pub invariant-loop-value : goal.invariant-loop-value
invariant-loop-value l = record {
  count : length l.values.items ≤ length l.phis;
  room : HaveRoom (length l.self.cells.items) l.phis;
  written : (names : List Symbol) (m : Memory) (memory : MeantMemory) (locals : Locals) (from : ℕ) → AreLocals names m memory l.initial.self locals →
      AreTaken names m memory locals from l.phis l.initial.values.items →
      AreTaken names m memory locals from (take (length l.values.items) l.phis) l.values.items
      × AreLocals names m memory l.self (phis_meant names locals from (drop (length l.values.items) l.phis) locals);
}
