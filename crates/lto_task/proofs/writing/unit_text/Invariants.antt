use Rattle.std.proofs.Common.{◌≡◌, ◌++◌, drop}
use Rattle.lto_task.specs.Units.{unit_text}
use Rattle.lto_task.proofs.writing.unit_text.Given as goal

abbrev pub invariant-loop-piece : goal.invariant-loop-piece
invariant-loop-piece l = l.out ++ unit_text (drop l.piece-index l.pieces) ≡ unit_text l.pieces
