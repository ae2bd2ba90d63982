use Rattle.std.proofs.Common.{◌≡◌, take}
use Rattle.std.specs.List.{flat_map}
use Rattle.ir_summary.specs.Once.{texts}
use Rattle.ir_summary.specs.References.{global_names}
use Rattle.importer.specs.Tables.{values}
use Rattle.importer.proofs.names.references_of.Given as goal

abbrev pub invariant-loop-global : goal.invariant-loop-global
invariant-loop-global l = texts l.names.items ≡ flat_map global_names (values (take l.global-index l.globals))
