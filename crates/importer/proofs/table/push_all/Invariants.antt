use Rattle.std.proofs.Common.{◌≡◌, ◌++◌, take}
use Rattle.importer.specs.Tables.{values}
use Rattle.importer.proofs.table.push_all.Given as goal

abbrev pub invariant-loop-global : goal.invariant-loop-global
invariant-loop-global l = values l.all.items ≡ values l.fn.all.items ++ take l.global-index l.globals
