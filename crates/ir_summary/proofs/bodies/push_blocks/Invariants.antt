use Rattle.std.proofs.Common.{◌≡◌, ◌++◌, drop}
use Rattle.ir_summary.specs.Once.{texts}
use Rattle.ir_summary.specs.Walked.{blocks_names}
use Rattle.ir_summary.proofs.bodies.push_blocks.Given as goal

abbrev pub invariant-loop-block : goal.invariant-loop-block
invariant-loop-block l = texts l.names.items ++ blocks_names (drop l.block-index l.blocks) ≡ texts l.fn.names.items ++ blocks_names l.blocks
