use Rattle.std.proofs.Common.{◌≡◌, ◌++◌, drop}
use Rattle.block_trim.specs.Working.{blocks_taken, left, naming}
use Rattle.block_trim.proofs.joining.Joining.blocks.Given as goal

abbrev pub invariant-loop-block : goal.invariant-loop-block
invariant-loop-block l = l.rows ++ blocks_taken (naming l.fn.self.joins.items) (left l.self) (drop l.block-index l.blocks) ≡ blocks_taken (naming l.fn.self.joins.items) (left l.fn.self) l.blocks
