use Rattle.std.proofs.Common.{◌≡◌, length}
use Rattle.tests_outside.proofs.pool.tasks.Given as goal

abbrev pub invariant-loop-limit : goal.invariant-loop-limit
invariant-loop-limit l = length l.tasks.items ≡ l.limit-index
