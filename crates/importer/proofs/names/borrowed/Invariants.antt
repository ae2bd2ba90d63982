use Rattle.std.proofs.Common.{◌≡◌, take}
use Rattle.ir_summary.specs.Once.{texts}
use Rattle.importer.proofs.names.borrowed.Given as goal

abbrev pub invariant-loop-name : goal.invariant-loop-name
invariant-loop-name l = texts l.list.items ≡ take l.name-index l.names
