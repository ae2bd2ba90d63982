use Rattle.ir_parse_stages.proofs.Runs.{ends, passed_on, stops}
use Rattle.std.proofs.Common.{refl}
use Rattle.ir_parse_names.specs.TypeNames.{all_typed}
use Rattle.ir_parse_stages.proofs.Runs.{typed_more, goes_on}
use Rattle.ir_parse_stages.proofs.type_names.all_typed.Goals as goal

pub each-preserved : goal.each-preserved
each-preserved c =
    goes_on (all_typed c.args.all.now) (typed_more c.args.all.now) c.args.rows.now c.each.mark-index c.mark-item.result c.each.types _ _ c.each-test.true c.mark-item.is c.in_ok-typed_by.ensures c.each.invariant

pub returns : goal.returns
returns c = ends (all_typed c.args.all.now) (typed_more c.args.all.now) (λ s. refl) c.args.rows.now c.each.mark-index c.each.types _ c.each-test.false c.each.invariant

pub returns-in_err-typed_by : goal.returns-in_err-typed_by
returns-in_err-typed_by c = passed_on _ _ c.in_err-typed_by.field-0.0 _ c.from_residual.ensures (stops (all_typed c.args.all.now) (typed_more c.args.all.now) c.args.rows.now c.each.mark-index c.mark-item.result c.each.types c.in_err-typed_by.field-0.0 _ c.each-test.true c.mark-item.is c.in_err-typed_by.ensures c.each.invariant)
