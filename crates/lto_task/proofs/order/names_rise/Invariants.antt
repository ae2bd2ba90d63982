use Rattle.lto_task.proofs.Rises.{RiseBelow}
use Rattle.lto_task.proofs.order.names_rise.Given as goal

abbrev pub invariant-loop-i : goal.invariant-loop-i
invariant-loop-i l = RiseBelow l.names l.i
