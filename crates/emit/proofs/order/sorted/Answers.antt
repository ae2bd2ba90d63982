use Rattle.std.proofs.Common.{List, subst}
use Rattle.lto_task.specs.declared.piece.Piece.{Piece}
use Rattle.emit.specs.Chosen.{values}
use Rattle.emit.specs.Joins.{IsInNameOrder}
use Rattle.emit.proofs.order.sorted.Goals as goal

pub returns : goal.returns
returns c = subst (λ (gs : List Piece). IsInNameOrder gs (values c.sort_pieces.new.chosen.items)) c.in_ok-chosen.ensures c.in_ok-sort_pieces.ensures
