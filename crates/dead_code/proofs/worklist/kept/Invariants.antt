use Rattle.std.proofs.Common.{◌+◌, length, nat_eq}
use Rattle.std.specs.HashSet.{contains}
use Rattle.dead_code.specs.Lists.{list_in, total}
use Rattle.dead_code.specs.Readers.{read_for}
use Rattle.dead_code.proofs.Working.{Working}
use Rattle.dead_code.proofs.worklist.kept.Given as goal

abbrev pub invariant-loop-local : goal.invariant-loop-local
invariant-loop-local l = Working l.fn.readers.by_effects.items (read_for l.fn.readers) (contains nat_eq l.kept) (list_in l.by_definition) l.work.items

abbrev pub decreases-loop-local : goal.decreases-loop-local
decreases-loop-local l = length l.work.items + total l.by_definition
