use Rattle.std.proofs.Common.{◌≡◌, ◌++◌, drop}
use Rattle.emit.specs.Chosen.{unit_due, values}
use Rattle.emit.proofs.order.push_unit.Given as goal

abbrev pub invariant-loop-piece : goal.invariant-loop-piece
invariant-loop-piece l =
    values l.chosen.items ++ unit_due l.kept.keys l.group (drop l.piece-index l.pieces) ≡ values l.fn.chosen.items ++ unit_due l.kept.keys l.group l.pieces
