use Rattle.std.proofs.Common.{◌≡◌, drop, nat_eq}
use Rattle.std.specs.HashSet.{contains}
use Rattle.block_trim.specs.Staying.{entries_stay}
use Rattle.block_trim.proofs.staying.entries_stay.Given as goal

abbrev pub invariant-loop-entry : goal.invariant-loop-entry
invariant-loop-entry l = entries_stay (contains nat_eq l.reached) (drop l.entry-index l.entries) ≡ entries_stay (contains nat_eq l.reached) l.entries
