use Rattle.std.proofs.Common.{◌≡◌, drop, nat_eq}
use Rattle.std.specs.HashSet.{contains}
use Rattle.block_trim.specs.Staying.{blocks_stay}
use Rattle.block_trim.proofs.staying.blocks_stay.Given as goal

abbrev pub invariant-loop-block : goal.invariant-loop-block
invariant-loop-block l = blocks_stay (contains nat_eq l.reached) (drop l.block-index l.blocks) ≡ blocks_stay (contains nat_eq l.reached) l.blocks
