use Rattle.std.proofs.Common.{◌≡◌, drop, nat_eq}
use Rattle.std.specs.HashSet.{contains}
use Rattle.block_trim.specs.Unjoined.{all_stay}
use Rattle.block_trim.proofs.unjoined.all_stay.Given as goal

abbrev pub invariant-loop-block : goal.invariant-loop-block
invariant-loop-block l = all_stay (contains nat_eq l.candidates) (drop l.block-index l.blocks) ≡ all_stay (contains nat_eq l.candidates) l.blocks
