use Rattle.ir_parse_stages.proofs.Runs.{ends, passed_on, stops, row_none}
use Rattle.ir_parse_stages.proofs.Runs.{row, row_more, goes_on}
use Rattle.ir_parse_stages.proofs.name_graph.places.Goals as goal

pub each-preserved : goal.each-preserved
each-preserved c =
    goes_on (row c.args.types.now) (row_more c.args.types.now) c.args.rows.now c.each.mark-index c.mark-item.result c.each.row.items _ _ c.each-test.true c.mark-item.is c.in_ok-with_place.ensures c.each.invariant

pub returns : goal.returns
returns c = ends (row c.args.types.now) (row_more c.args.types.now) (row_none c.args.types.now) c.args.rows.now c.each.mark-index c.each.row.items _ c.each-test.false c.each.invariant

pub returns-in_err-with_place : goal.returns-in_err-with_place
returns-in_err-with_place c = passed_on _ _ c.in_err-with_place.field-0.0 _ c.from_residual.ensures (stops (row c.args.types.now) (row_more c.args.types.now) c.args.rows.now c.each.mark-index c.mark-item.result c.each.row.items c.in_err-with_place.field-0.0 _ c.each-test.true c.mark-item.is c.in_err-with_place.ensures c.each.invariant)
