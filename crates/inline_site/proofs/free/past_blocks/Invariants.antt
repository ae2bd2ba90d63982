use Rattle.std.proofs.Common.{◌≡◌, max, drop}
use Rattle.ir_tree.specs.Flow.{room}
use Rattle.ir_edit.specs.Numbered.{blocks_numbers}
use Rattle.inline_site.proofs.free.past_blocks.Given as goal

abbrev pub invariant-loop-block : goal.invariant-loop-block
invariant-loop-block l = max l.free (room (blocks_numbers (drop l.block-index l.blocks))) ≡ max l.initial.free (room (blocks_numbers l.blocks))
