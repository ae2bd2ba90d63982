use Rattle.std.proofs.Common.{◌≡◌}
use Rattle.merge_meaning.proofs.merging.values_of.Given as goal

abbrev pub invariant-loop-value : goal.invariant-loop-value
invariant-loop-value l = l.rows ≡ l.yielded
