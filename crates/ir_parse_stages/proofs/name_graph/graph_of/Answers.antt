use Rattle.std.proofs.Common.{◌≡◌, ◌<◌, length, sym, arith}
use Rattle.ir_parse_names.specs.TypeNames.{places, uses_in, graph_of}
use Rattle.ir_parse_names.specs.Types.{shape_at}
use Rattle.ir_parse_stages.proofs.Runs.{same_value}
use Rattle.ir_parse_stages.proofs.Marked.{row_more}
use Rattle.ir_parse_stages.proofs.name_graph.graph_of.Goals as goal

pub each-preserved : goal.each-preserved
each-preserved c =
    let lt : c.each.place < length c.args.types.now = omega (arith, c.each-test.true, c.len-place-end.ensures) in
    let row : c.in_ok-row_of.field-0.items ≡ places c.args.types.now (uses_in (shape_at c.args.types.now c.each.place)) = sym (same_value _ _ c.in_ok-row_of.ensures) in
    row_more c.args.types.now c.each.place c.each.graph c.push.new.self (graph_of c.args.types.now) c.in_ok-row_of.field-0.items lt row c.in_ok-push.ensures c.each.invariant
