use Rattle.std.proofs.Common.{◌≡◌, ◌++◌, length}
use Rattle.std.specs.Prelude.{All}
use Rattle.lto_task.specs.Units.{IsWritten, unit_text}
use Rattle.lto_task.proofs.taking_apart.all_pieces.Given as goal

abbrev pub invariant-loop-reader : goal.invariant-loop-reader
invariant-loop-reader l = record {
  written : All IsWritten l.pieces;
  read : l.bytes ≡ unit_text l.pieces ++ l.reader.rest.now;
}

abbrev pub decreases-loop-reader : goal.decreases-loop-reader
decreases-loop-reader l = length l.reader.rest.now
