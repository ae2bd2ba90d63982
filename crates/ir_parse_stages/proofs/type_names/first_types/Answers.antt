use Rattle.ir_parse_stages.proofs.Runs.{ends, passed_on, stops}
use Rattle.std.proofs.Common.{refl}
use Rattle.ir_parse_stages.proofs.Runs.{firsts, firsts_more, goes_on}
use Rattle.ir_parse_stages.proofs.type_names.first_types.Goals as goal

pub each-preserved : goal.each-preserved
each-preserved c =
    goes_on firsts firsts_more c.args.rows.now c.each.mark-index c.mark-item.result c.each.types _ _ c.each-test.true c.mark-item.is c.in_ok-with_first.ensures c.each.invariant

pub returns : goal.returns
returns c = ends (firsts) (firsts_more) (λ s. refl) c.args.rows.now c.each.mark-index c.each.types _ c.each-test.false c.each.invariant

pub returns-in_err-with_first : goal.returns-in_err-with_first
returns-in_err-with_first c = passed_on _ _ c.in_err-with_first.field-0.0 _ c.from_residual.ensures (stops (firsts) (firsts_more) c.args.rows.now c.each.mark-index c.mark-item.result c.each.types c.in_err-with_first.field-0.0 _ c.each-test.true c.mark-item.is c.in_err-with_first.ensures c.each.invariant)
