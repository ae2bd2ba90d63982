use Rattle.std.proofs.Common.{◌≡◌, ◌++◌, drop, nat_eq}
use Rattle.std.specs.HashSet.{contains}
use Rattle.ir_meaning.specs.Needed.{needed_blocks}
use Rattle.dead_code.proofs.sweep.blocks.Given as goal

abbrev pub invariant-loop-old : goal.invariant-loop-old
invariant-loop-old l = l.rows ++ needed_blocks (contains nat_eq l.kept) (drop l.old-index l.blocks) ≡ needed_blocks (contains nat_eq l.kept) l.blocks
