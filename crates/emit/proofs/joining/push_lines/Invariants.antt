use Rattle.std.proofs.Common.{◌≡◌, ◌++◌, drop}
use Rattle.emit.specs.Chosen.{values}
use Rattle.emit.specs.Joins.{lines_of}
use Rattle.emit.proofs.joining.push_lines.Given as goal

abbrev pub invariant-loop-piece : goal.invariant-loop-piece
invariant-loop-piece l = l.out ++ lines_of (values (drop l.piece-index l.pieces)) ≡ l.fn.out ++ lines_of (values l.pieces)
