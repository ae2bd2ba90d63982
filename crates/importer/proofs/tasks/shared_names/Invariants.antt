use Rattle.std.proofs.Common.{◌≡◌, filter, map, take}
use Rattle.ir_summary.specs.Once.{texts}
use Rattle.merge_meaning.specs.ByName.{has}
use Rattle.importer.specs.Tasks.{name_of}
use Rattle.importer.proofs.tasks.shared_names.Given as goal

abbrev pub invariant-loop-global : goal.invariant-loop-global
invariant-loop-global l = texts l.names.items ≡ filter (has l.set) (map name_of (take l.global-index l.globals))
