use Rattle.std.proofs.Common.{All, take}
use Rattle.lto_task.specs.Units.{IsWritten}
use Rattle.link_one.proofs.writable.are_written.Given as goal

abbrev pub invariant-loop-piece : goal.invariant-loop-piece
invariant-loop-piece l = All IsWritten (take l.piece-index l.pieces)
