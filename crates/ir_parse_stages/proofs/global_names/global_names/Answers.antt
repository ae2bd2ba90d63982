use Rattle.ir_parse_stages.proofs.Runs.{ends, passed_on, stops}
use Rattle.std.proofs.Common.{refl}
use Rattle.ir_parse_stages.proofs.Runs.{names, names_more, goes_on}
use Rattle.ir_parse_stages.proofs.global_names.global_names.Goals as goal

pub each-preserved : goal.each-preserved
each-preserved c =
    goes_on names names_more c.args.rows.now c.each.mark-index c.mark-item.result c.each.names _ _ c.each-test.true c.mark-item.is c.in_ok-with_name.ensures c.each.invariant

pub returns : goal.returns
returns c = ends (names) (names_more) (λ s. refl) c.args.rows.now c.each.mark-index c.each.names _ c.each-test.false c.each.invariant

pub returns-in_err-with_name : goal.returns-in_err-with_name
returns-in_err-with_name c = passed_on _ _ c.in_err-with_name.field-0.0 _ c.from_residual.ensures (stops (names) (names_more) c.args.rows.now c.each.mark-index c.mark-item.result c.each.names c.in_err-with_name.field-0.0 _ c.each-test.true c.mark-item.is c.in_err-with_name.ensures c.each.invariant)
