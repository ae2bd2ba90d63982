use Rattle.std.proofs.Common.{take}
use Rattle.std.specs.List.{AllZip}
use Rattle.back_end.specs.Walking.{bodies_in}
use Rattle.importer.specs.Tables.{values}
use Rattle.link_one.specs.Units.{IsLinkedPiece}
use Rattle.link_one.proofs.task_unit.linked_pieces.Given as goal

abbrev pub invariant-each : goal.invariant-each
invariant-each l = AllZip (IsLinkedPiece (bodies_in l.bodies) l.exported.exports.now) (values (take l.global-index l.globals)) l.rows
