use Rattle.std.proofs.Common.{take}
use Rattle.std.specs.Prelude.{All}
use Rattle.lto_task.specs.Pieces.{NamesRise}
use Rattle.lto_task.proofs.order.refs_rise.Given as goal

abbrev pub invariant-loop-piece : goal.invariant-loop-piece
invariant-loop-piece l = All (λ p. NamesRise p.refs) (take l.piece-index l.pieces)
