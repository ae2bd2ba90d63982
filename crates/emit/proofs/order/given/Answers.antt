use Rattle.std.proofs.Common.{◌∙◌, ◌+◌, ◌++◌, List, ap, drop}
use Rattle.std.specs.List.{flat_map}
use Rattle.lto_task.specs.declared.piece.Piece.{Piece}
use Rattle.emit.specs.Chosen.{unit_due, values}
use Rattle.emit.proofs.Listing.{one_done}
use Rattle.emit.proofs.order.given.Goals as goal

pub loop-unit-preserved : goal.loop-unit-preserved
loop-unit-preserved c =
    ap (λ (gs : List Piece). gs ++ flat_map (unit_due c.args.kept.now.keys c.args.group) (drop (c.loop-unit.unit-index + 1) c.args.units.now)) c.in_ok-push_unit.ensures
    ∙ one_done (unit_due c.args.kept.now.keys c.args.group) (values c.loop-unit.chosen.items) (flat_map (unit_due c.args.kept.now.keys c.args.group) c.args.units.now) c.args.units.now
    c.loop-unit.unit-index c.as_slice.result.now c.unit-item.result c.loop-unit-test.true (c.as_slice.ensures ∙ c.unit-item.is) c.loop-unit.invariant
