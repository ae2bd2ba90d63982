use Rattle.std.proofs.Common.{◌≡◌, take}
use Rattle.importer.specs.Brought.{joined}
use Rattle.importer.specs.Tables.{values}
use Rattle.importer.proofs.table.all_of.Given as goal

abbrev pub invariant-loop-part : goal.invariant-loop-part
invariant-loop-part l = values l.all.items ≡ joined (take l.part-index l.parts)
