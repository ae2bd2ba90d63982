use Rattle.std.proofs.Common.{◌≡◌, map, take}
use Rattle.emit.specs.Graphs.{is_key}
use Rattle.emit.proofs.dropping.marks_by.Given as goal

abbrev pub invariant-loop-piece : goal.invariant-loop-piece
invariant-loop-piece l = l.marks.items ≡ map (λ p. is_key l.kept.keys p.name) (take l.piece-index l.pieces)
