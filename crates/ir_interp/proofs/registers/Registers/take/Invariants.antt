use Rattle.std.proofs.Common.{◌≡◌, ℕ, List, length, take}
use Rattle.ir_tree.specs.declared.operand.Symbol.{Symbol}
use Rattle.ir_meaning.specs.Frame.{Locals}
use Rattle.ir_meaning.specs.Memory.{Memory as MeantMemory}
use Rattle.ir_machine.specs.declared.memory.Memory.{Memory}
use Rattle.ir_interp.specs.Locals.{AreLocals, register_at}
use Rattle.ir_interp.specs.Phis.{ArePhisKnown, AreTaken, HaveRoom}
use Rattle.ir_interp.proofs.registers.Registers.take.Given as goal

abbrev pub invariant-loop-phi : goal.invariant-loop-phi
invariant-loop-phi l = record {
  same : (x : ℕ) → register_at l.self x ≡ register_at l.initial.self x;
  count : length l.values.items ≡ l.phi-index;
  room : HaveRoom (length l.self.cells.items) (take l.phi-index l.phis);
  taken : (names : List Symbol) (m : Memory) (memory : MeantMemory) (locals : Locals) → AreLocals names m memory l.initial.self locals → ArePhisKnown names m memory l.phis →
      AreTaken names m memory locals l.from (take l.phi-index l.phis) l.values.items;
}
