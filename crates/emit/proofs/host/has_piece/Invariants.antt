use Rattle.std.proofs.Common.{◌≡◌, drop}
use Rattle.emit.specs.Joins.{has_piece}
use Rattle.emit.proofs.host.has_piece.Given as goal

abbrev pub invariant-loop-piece : goal.invariant-loop-piece
invariant-loop-piece l = has_piece (drop l.piece-index l.pieces) l.name ≡ has_piece l.pieces l.name
