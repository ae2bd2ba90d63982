use Rattle.machine_code.proofs.Storing.{AreAdded}
use Rattle.machine_code.proofs.start.opening.Given as goal

abbrev pub invariant-loop-global : goal.invariant-loop-global
invariant-loop-global l = AreAdded l.bases l.globals l.global-index l.blocks.items
