use Rattle.std.proofs.Common.{◌≡◌, drop}
use Rattle.outside_memory.specs.Failures.{leaves_at}
use Rattle.outside_memory.proofs.failure.failure_at.Given as goal

abbrev pub invariant-loop-failure : goal.invariant-loop-failure
invariant-loop-failure l = leaves_at (drop l.failure-index l.failures) l.call ≡ leaves_at l.failures l.call
