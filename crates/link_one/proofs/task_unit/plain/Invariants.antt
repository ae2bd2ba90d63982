use Rattle.std.proofs.Common.{◌≡◌, take}
use Rattle.importer.specs.Tables.{values}
use Rattle.link_one.proofs.task_unit.plain.Given as goal

abbrev pub invariant-loop-global : goal.invariant-loop-global
invariant-loop-global l = values l.list.items ≡ values (take l.global-index l.globals)
