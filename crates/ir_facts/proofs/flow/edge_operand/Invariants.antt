use Rattle.std.proofs.Common.{◌≡◌, drop}
use Rattle.ir_meaning.specs.Facts.{edge_operand}
use Rattle.ir_facts.proofs.flow.edge_operand.Given as goal

abbrev pub invariant-loop-entry : goal.invariant-loop-entry
invariant-loop-entry l = edge_operand l.from (drop l.entry-index l.incoming) ≡ edge_operand l.from l.incoming
