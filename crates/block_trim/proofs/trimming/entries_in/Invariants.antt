use Rattle.std.proofs.Common.{◌≡◌, ◌++◌, drop, nat_eq}
use Rattle.std.specs.HashSet.{contains}
use Rattle.block_trim.specs.Trimmed.{entries_in}
use Rattle.block_trim.proofs.trimming.entries_in.Given as goal

abbrev pub invariant-loop-entry : goal.invariant-loop-entry
invariant-loop-entry l = l.rows ++ entries_in (contains nat_eq l.reached) (drop l.entry-index l.entries) ≡ entries_in (contains nat_eq l.reached) l.entries
