use Rattle.std.proofs.Common.{List, subst, sym}
use Rattle.emit.specs.Joins.{IsInNameOrder}
use Rattle.lto_task.specs.declared.piece.Piece.{Piece}
use Rattle.link_one.proofs.task_unit.in_name_order.Goals as goal

pub returns : goal.returns
returns c =
    subst (λ (unit : List Piece). IsInNameOrder c.args.pieces unit) (sym c.of.ensures)
    (subst (λ (before : List Piece). IsInNameOrder before c.sort_pieces.new.pieces.items) c.into_vec-unit.ensures c.in_ok-sort_pieces.ensures)
