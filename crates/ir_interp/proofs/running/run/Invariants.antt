use Rattle.std.proofs.Common.{◌≡◌, ◌-◌, ◌≤◌, List}
use Rattle.ir_tree.specs.declared.operand.Symbol.{Symbol}
use Rattle.ir_meaning.specs.Program.{Program, State}
use Rattle.ir_interp.specs.Code.{IsRunnable}
use Rattle.ir_interp.specs.Steps.{IsRunning}
use Rattle.ir_interp.proofs.Turns.{Comes}
use Rattle.ir_interp.proofs.running.run.Given as goal

abbrev pub decreases-loop-left : goal.decreases-loop-left
decreases-loop-left g l = l.left

abbrev pub invariant-loop-left : goal.invariant-loop-left
invariant-loop-left g l = record {
  within : l.left ≤ l.budget;
  runnable : IsRunnable l.machine.code.now;
  code : l.machine.code.now ≡ l.initial.machine.code.now;
  inputs : g.I.ByteIn.faults l.initial.input ≤ g.I.ByteIn.faults l.input;
  outputs : g.O.ByteOut.faults l.initial.out ≤ g.O.ByteOut.faults l.out;
  comes : (names : List Symbol) (p : Program) (s : State) → IsRunning names p l.initial.machine s →
      Comes names p s (g.I.ByteIn.left l.initial.input) (g.O.ByteOut.sent l.initial.out) (l.budget - l.left) (g.I.ByteIn.left l.input) (g.O.ByteOut.sent l.out) l.machine;
}
