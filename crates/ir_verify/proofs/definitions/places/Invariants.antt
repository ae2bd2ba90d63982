use Rattle.ir_verify.specs.Definitions.{numbered}
use Rattle.ir_verify.proofs.Extending.{Along}
use Rattle.ir_verify.proofs.definitions.places.Given as goal

abbrev pub invariant-loop-place : goal.invariant-loop-place
invariant-loop-place l = Along (numbered) l.blocks l.place l.initial.table.entries.items l.table.entries.items
