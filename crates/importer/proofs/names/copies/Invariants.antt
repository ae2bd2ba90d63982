use Rattle.std.proofs.Common.{◌≡◌, ◌++◌, drop}
use Rattle.ir_summary.specs.Once.{texts}
use Rattle.importer.proofs.names.copies.Given as goal

abbrev pub invariant-loop-name : goal.invariant-loop-name
invariant-loop-name l = l.rows ++ texts (drop l.name-index l.names) ≡ texts l.names
