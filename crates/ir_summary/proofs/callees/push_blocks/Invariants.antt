use Rattle.std.proofs.Common.{◌≡◌, ◌++◌, drop}
use Rattle.ir_summary.specs.Once.{texts}
use Rattle.ir_summary.specs.Walked.{blocks_callees}
use Rattle.ir_summary.proofs.callees.push_blocks.Given as goal

abbrev pub invariant-loop-block : goal.invariant-loop-block
invariant-loop-block l = texts l.names.items ++ blocks_callees (drop l.block-index l.blocks) ≡ texts l.fn.names.items ++ blocks_callees l.blocks
