use Rattle.std.proofs.Common.{◌≡◌, drop, nat_eq}
use Rattle.std.specs.HashSet.{contains}
use Rattle.dead_code.specs.Staying.{blocks_stay}
use Rattle.dead_code.proofs.staying.blocks_stay.Given as goal

abbrev pub invariant-loop-block : goal.invariant-loop-block
invariant-loop-block l = blocks_stay (contains nat_eq l.kept) (drop l.block-index l.blocks) ≡ blocks_stay (contains nat_eq l.kept) l.blocks
