use Rattle.ir_verify.specs.Definitions.{line_pairs}
use Rattle.ir_verify.proofs.Extending.{Along}
use Rattle.ir_verify.proofs.definitions.put_lines.Given as goal

abbrev pub invariant-loop-place : goal.invariant-loop-place
invariant-loop-place l = Along (line_pairs l.block) l.lines l.place l.initial.table.entries.items l.table.entries.items
