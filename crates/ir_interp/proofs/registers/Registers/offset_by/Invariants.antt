use Rattle.std.proofs.Common.{◌≡◌, List, drop}
use Rattle.ir_tree.specs.declared.operand.Symbol.{Symbol}
use Rattle.ir_meaning.specs.Frame.{Locals}
use Rattle.ir_meaning.specs.Memory.{Memory as MeantMemory}
use Rattle.ir_machine.specs.Walking.{IsSized}
use Rattle.ir_machine.specs.declared.memory.Memory.{Memory}
use Rattle.ir_interp.specs.Locals.{AreKnown, AreLocals}
use Rattle.ir_interp.specs.Tasks.{indices_meant, offset_by}
use Rattle.ir_interp.proofs.Walking.{walked}
use Rattle.ir_interp.proofs.registers.Registers.offset_by.Given as goal

abbrev pub invariant-loop-index : goal.invariant-loop-index
invariant-loop-index l = record {
  sized : IsSized l.walk.next;
  rest : (names : List Symbol) (m : Memory) (memory : MeantMemory) (locals : Locals) → AreLocals names m memory l.self locals → AreKnown names m memory l.indices →
      walked l.inbounds l.walk (indices_meant names locals (drop l.index-index l.indices)) ≡ offset_by l.inbounds l.shape l.size l.offset (indices_meant names locals l.indices);
}
