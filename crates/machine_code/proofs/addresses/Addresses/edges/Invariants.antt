use Rattle.std.proofs.Common.{take}
use Rattle.std.specs.List.{AllZip}
use Rattle.machine_code.specs.Blocks.{IsEdge}
use Rattle.machine_code.proofs.addresses.Addresses.edges.Given as goal

abbrev pub invariant-loop-entry : goal.invariant-loop-entry
invariant-loop-entry l = AllZip (IsEdge l.self) (take l.entry-index l.incoming) l.edges.items
