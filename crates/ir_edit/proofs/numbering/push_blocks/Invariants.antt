use Rattle.std.proofs.Common.{◌≡◌, ◌++◌, drop}
use Rattle.ir_edit.specs.Numbered.{blocks_numbers}
use Rattle.ir_edit.proofs.numbering.push_blocks.Given as goal

abbrev pub invariant-loop-block : goal.invariant-loop-block
invariant-loop-block l = l.numbers.items ++ blocks_numbers (drop l.block-index l.blocks) ≡ l.fn.numbers.items ++ blocks_numbers l.blocks
