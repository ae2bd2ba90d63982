use Rattle.std.proofs.Common.{◌≡◌, ◌++◌, drop, nat_eq}
use Rattle.std.specs.HashSet.{contains}
use Rattle.block_trim.specs.Trimmed.{blocks_in}
use Rattle.block_trim.proofs.trimming.blocks_in.Given as goal

abbrev pub invariant-loop-block : goal.invariant-loop-block
invariant-loop-block l = l.rows ++ blocks_in (contains nat_eq l.reached) (drop l.block-index l.blocks) ≡ blocks_in (contains nat_eq l.reached) l.blocks
