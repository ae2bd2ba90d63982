use Rattle.ir_verify.specs.Definitions.{blocks_pairs}
use Rattle.ir_verify.proofs.Extending.{Along}
use Rattle.ir_verify.proofs.definitions.put_blocks.Given as goal

abbrev pub invariant-loop-place : goal.invariant-loop-place
invariant-loop-place l = Along (blocks_pairs) l.blocks l.place l.initial.table.entries.items l.table.entries.items
