use Rattle.std.proofs.Common.{map}
use Rattle.lto_task.proofs.Rises.{RiseBelow}
use Rattle.lto_task.proofs.order.pieces_rise.Given as goal

abbrev pub invariant-loop-i : goal.invariant-loop-i
invariant-loop-i l = RiseBelow (map (λ p. p.name) l.pieces) l.i
