use Rattle.std.proofs.Common.{◌≡◌, List, take}
use Rattle.ir_tree.specs.declared.operand.Symbol.{Symbol}
use Rattle.ir_meaning.specs.Frame.{Locals}
use Rattle.ir_meaning.specs.Memory.{Memory as MeantMemory}
use Rattle.ir_machine.specs.declared.memory.Memory.{Memory}
use Rattle.ir_interp.specs.Locals.{AreKnown, AreLocals}
use Rattle.ir_interp.specs.Tasks.{values_meant}
use Rattle.ir_interp.specs.Calls.{AreValid, all_meant}
use Rattle.ir_interp.proofs.callee.arguments.Given as goal

abbrev pub invariant-loop-argument : goal.invariant-loop-argument
invariant-loop-argument l = (names : List Symbol) (m : Memory) (memory : MeantMemory) (locals : Locals) → AreLocals names m memory l.registers locals → AreKnown names m memory l.arguments →
    (all_meant names l.values.items ≡ values_meant names locals (take l.argument-index l.arguments)) × AreValid names m memory l.values.items
