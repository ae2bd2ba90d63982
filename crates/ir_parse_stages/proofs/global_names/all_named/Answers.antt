use Rattle.ir_parse_stages.proofs.Runs.{ends, passed_on, stops}
use Rattle.std.proofs.Common.{refl}
use Rattle.ir_parse_names.specs.Stages.{all_named}
use Rattle.ir_parse_stages.proofs.Runs.{named_more, goes_on}
use Rattle.ir_parse_stages.proofs.global_names.all_named.Goals as goal

pub each-preserved : goal.each-preserved
each-preserved c =
    goes_on (all_named c.args.names.now) (named_more c.args.names.now) c.args.rows.now c.each.mark-index c.mark-item.result c.each.globals _ _ c.each-test.true c.mark-item.is c.in_ok-named.ensures c.each.invariant

pub returns : goal.returns
returns c = ends (all_named c.args.names.now) (named_more c.args.names.now) (λ s. refl) c.args.rows.now c.each.mark-index c.each.globals _ c.each-test.false c.each.invariant

pub returns-in_err-named : goal.returns-in_err-named
returns-in_err-named c = passed_on _ _ c.in_err-named.field-0.0 _ c.from_residual.ensures (stops (all_named c.args.names.now) (named_more c.args.names.now) c.args.rows.now c.each.mark-index c.mark-item.result c.each.globals c.in_err-named.field-0.0 _ c.each-test.true c.mark-item.is c.in_err-named.ensures c.each.invariant)
