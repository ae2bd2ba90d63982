use Rattle.std.proofs.Common.{◌≡◌, ◌++◌, drop}
use Rattle.ir_summary.specs.Once.{texts}
use Rattle.ir_summary.specs.Walked.{values_named}
use Rattle.ir_summary.proofs.bodies.push_incoming.Given as goal

abbrev pub invariant-loop-edge : goal.invariant-loop-edge
invariant-loop-edge l = texts l.names.items ++ values_named (drop l.edge-index l.incoming) ≡ texts l.fn.names.items ++ values_named l.incoming
