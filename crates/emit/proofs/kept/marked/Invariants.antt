use Rattle.emit.proofs.Keeping.{KeysSoFar}
use Rattle.emit.proofs.kept.marked.Given as goal

abbrev pub invariant-loop-number : goal.invariant-loop-number
invariant-loop-number l = KeysSoFar l.names l.marks l.number l.kept.keys
