use Rattle.std.proofs.Common.{◌≡◌, ◌≤◌, ℕ, List, length, take, drop, vec_len}
use Rattle.ir_tree.specs.declared.operand.Symbol.{Symbol}
use Rattle.ir_meaning.specs.Memory.{Memory as MeantMemory}
use Rattle.ir_machine.specs.declared.memory.Memory.{Memory}
use Rattle.ir_machine.specs.declared.scalar.Scalar.TheVariants.{Poison}
use Rattle.ir_interp.specs.Locals.{AreLocals, register_at}
use Rattle.ir_interp.specs.Calls.{AreValid, all_meant}
use Rattle.ir_interp.specs.Entering.{ParamsFit, params_meant}
use Rattle.ir_interp.proofs.entry.pass.Given as goal

abbrev pub decreases-loop-value : goal.decreases-loop-value
decreases-loop-value l = vec_len l.arguments

abbrev pub invariant-loop-value : goal.invariant-loop-value
invariant-loop-value l = record {
  count : length l.arguments.items ≤ length l.params;
  room : ParamsFit (length l.registers.cells.items) l.params;
  left : l.arguments.items ≡ take (length l.arguments.items) l.initial.arguments.items;
  written : (names : List Symbol) (m : Memory) (memory : MeantMemory) → ((x : ℕ) → register_at l.initial.registers x ≡ Poison) → AreValid names m memory l.initial.arguments.items →
      AreLocals names m memory l.registers (params_meant (drop (length l.arguments.items) l.params) (all_meant names (drop (length l.arguments.items) l.initial.arguments.items)));
}
