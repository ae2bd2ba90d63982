use Rattle.std.proofs.Common.{◌∙◌, ◌+◌, ◌++◌, List, ap, drop}
use Rattle.lto_task.specs.declared.piece.Piece.{Piece}
use Rattle.emit.specs.Chosen.{due, unit_due, values}
use Rattle.emit.proofs.Listing.{one_done}
use Rattle.emit.proofs.order.push_unit.Goals as goal

pub loop-piece-preserved : goal.loop-piece-preserved
loop-piece-preserved c =
    ap (λ (gs : List Piece). gs ++ unit_due c.args.kept.now.keys c.args.group (drop (c.loop-piece.piece-index + 1) c.args.pieces.now)) c.in_ok-push_piece.ensures
    ∙ one_done (due c.args.kept.now.keys c.args.group) (values c.loop-piece.chosen.items)
    (values c.args.chosen.now.items ++ unit_due c.args.kept.now.keys c.args.group c.args.pieces.now) c.args.pieces.now c.loop-piece.piece-index c.piece-item.result c.piece-item.result
    c.loop-piece-test.true c.piece-item.is c.loop-piece.invariant
